use Rattle.ex_commands.proofs.Outcomes.{waits_for_subcommands}
use Rattle.ex_commands.proofs.laws.a_command_waits_for_its_subcommands.Goals as goal

pub returns : goal.returns
returns c = waits_for_subcommands
