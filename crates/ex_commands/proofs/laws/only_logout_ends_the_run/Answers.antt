use Rattle.ex_commands.proofs.Outcomes.{ends_by_logout}
use Rattle.ex_commands.proofs.laws.only_logout_ends_the_run.Goals as goal

pub returns : goal.returns
returns c = ends_by_logout
