use Rattle.ex_commands.proofs.Outcomes.{begins_by_take}
use Rattle.ex_commands.proofs.laws.only_take_begins_a_command_file.Goals as goal

pub returns : goal.returns
returns c = begins_by_take
