use Rattle.ex_generations.proofs.Retention.{IsAscending-added}
use Rattle.ex_generations.proofs.laws.adding_keeps_the_order.Goals as goal

pub returns : goal.returns
returns c = IsAscending-added
