-- What a confirmed line commands.
use Rattle.std.specs.Prelude.{◌==◌, if◌then◌else◌, Option, Some}
use Rattle.cm_fields.specs.declared.value.Value.{Value}
use Rattle.cm_fields.specs.declared.value.Value.TheVariants as values
use Rattle.cm_blocks.specs.declared.function.Role.TheVariants as roles
use Rattle.cm_state.specs.SessionState.{SessionState}
use Rattle.cm_state.specs.Roles.{value_of}
use Rattle.eg_template.specs.declared.command.Command.{Command}
use Rattle.eg_template.specs.declared.command.Command.TheVariants as commands
use Rattle.eg_template.specs.declared.grammar.TheConstants.{ADD, QUIT}

-- ADD, by its number
abbrev pub add_by : Option Value → Command
add_by (Some (values.Number number)) = commands.Add number
add_by value = commands.Nothing

-- the command that a keyword names
abbrev pub by_verb : Option Value → Option Value → Command
by_verb (Some (values.Key entry code)) value =
    if code == ADD then add_by value else (if code == QUIT then commands.Quit else commands.Nothing)
by_verb verb value = commands.Nothing

-- the field of role Verb names the command, and that of role Value its number
abbrev pub command_of : SessionState → Command
command_of held = by_verb (value_of roles.Verb held.fields) (value_of roles.Value held.fields)
