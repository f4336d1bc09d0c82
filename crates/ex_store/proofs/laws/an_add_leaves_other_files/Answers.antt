use Rattle.ex_store.specs.declared.row.Row.{Row}
use Rattle.ex_store.proofs.FilesOfLaws.{files_apart}
use Rattle.ex_store.proofs.laws.an_add_leaves_other_files.Goals as goal

pub returns : goal.returns
returns c = λ (row : Row). files_apart row.file.keep row
