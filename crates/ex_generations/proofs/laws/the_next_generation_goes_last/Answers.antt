use Rattle.ex_generations.proofs.KeptFiles.{inserted-last}
use Rattle.ex_generations.proofs.laws.the_next_generation_goes_last.Goals as goal

pub returns : goal.returns
returns c = inserted-last
