use Rattle.ex_store.proofs.ExpungedLaws.{directories_stay}
use Rattle.ex_store.proofs.laws.a_plan_keeps_the_directories.Goals as goal

pub returns : goal.returns
returns c = directories_stay
