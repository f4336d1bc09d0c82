use Rattle.ex_commands.proofs.Outcomes.{begins_by_copy}
use Rattle.ex_commands.proofs.laws.only_copy_from_the_terminal_begins_a_file.Goals as goal

pub returns : goal.returns
returns c = begins_by_copy
