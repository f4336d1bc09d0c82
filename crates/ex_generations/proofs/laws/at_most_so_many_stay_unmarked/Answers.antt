use Rattle.ex_generations.proofs.Retention.{retained-live}
use Rattle.ex_generations.proofs.laws.at_most_so_many_stay_unmarked.Goals as goal

pub returns : goal.returns
returns c = retained-live
