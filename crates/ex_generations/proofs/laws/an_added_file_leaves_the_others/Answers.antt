use Rattle.ex_generations.proofs.KeptFiles.{among}
use Rattle.ex_generations.proofs.laws.an_added_file_leaves_the_others.Goals as goal

pub returns : goal.returns
returns c = λ file files a none. ((among file files 0 a none).others, (among file files 0 a none).found)
