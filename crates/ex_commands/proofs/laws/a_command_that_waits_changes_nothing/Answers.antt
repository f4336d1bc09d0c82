use Rattle.ex_commands.proofs.Outcomes.{waiting_changes_nothing}
use Rattle.ex_commands.proofs.laws.a_command_that_waits_changes_nothing.Goals as goal

pub returns : goal.returns
returns c = waiting_changes_nothing
