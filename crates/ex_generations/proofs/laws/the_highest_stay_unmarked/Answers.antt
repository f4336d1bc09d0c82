use Rattle.ex_generations.proofs.Retention.{retained-unmarked}
use Rattle.ex_generations.proofs.laws.the_highest_stay_unmarked.Goals as goal

pub returns : goal.returns
returns c = retained-unmarked
