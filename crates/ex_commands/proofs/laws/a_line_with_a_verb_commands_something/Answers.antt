use Rattle.ex_commands.proofs.LineCommands.{no_verb_no_command, verb_is_obeyed}
use Rattle.ex_commands.proofs.laws.a_line_with_a_verb_commands_something.Goals as goal

pub returns-clause-verb : goal.returns-clause-verb
returns-clause-verb c = verb_is_obeyed

pub returns-clause-none : goal.returns-clause-none
returns-clause-none c = no_verb_no_command
