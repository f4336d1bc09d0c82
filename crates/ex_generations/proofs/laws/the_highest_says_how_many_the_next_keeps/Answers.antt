use Rattle.ex_generations.proofs.Retention.{keep_for-append}
use Rattle.ex_generations.proofs.laws.the_highest_says_how_many_the_next_keeps.Goals as goal

pub returns-clause-others : goal.returns-clause-others
returns-clause-others c = keep_for-append
