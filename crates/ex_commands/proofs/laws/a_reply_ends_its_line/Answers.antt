use Rattle.ex_commands.proofs.LineEnds.{act_tests, write_tests}
use Rattle.ex_commands.proofs.laws.a_reply_ends_its_line.Goals as goal

pub returns-clause-command : goal.returns-clause-command
returns-clause-command c = act_tests

pub returns-clause-typed : goal.returns-clause-typed
returns-clause-typed c = write_tests
