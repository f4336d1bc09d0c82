use Rattle.ex_store.specs.declared.row.Row.{Row}
use Rattle.ex_store.proofs.FilesOfLaws.{files_added}
use Rattle.ex_store.proofs.laws.an_add_is_one_of_generations.Goals as goal

pub returns : goal.returns
returns c = λ (row : Row). files_added row.file.keep row
