-- What a confirmed line commands.
use Rattle.std.specs.Prelude.{ℕ, ◌==◌, List, take, if◌then◌else◌, Option, None, Some}
use Rattle.cm_text.specs.declared.name.TheConstants.{NAME_LIMIT}
use Rattle.cm_fields.specs.Quoted.{unquoted}
use Rattle.cm_fields.specs.declared.value.Value.{Value}
use Rattle.cm_fields.specs.declared.value.Value.TheVariants as values
use Rattle.cm_blocks.specs.declared.function.Role.TheVariants as roles
use Rattle.cm_blocks.specs.FieldView.{FieldView}
use Rattle.cm_state.specs.SessionState.{SessionState, text_of}
use Rattle.cm_state.specs.Roles.{field_of, value_of}
use Rattle.cm_state.specs.FieldText.{said}
use Rattle.eg_lamps.specs.Graph.{lamp_graph}
use Rattle.eg_lamps.specs.declared.lamps.Change.{Change}
use Rattle.eg_lamps.specs.declared.lamps.Change.TheVariants.{Set, Dim, Note}
use Rattle.eg_lamps.specs.declared.lamps.Command.{Command}
use Rattle.eg_lamps.specs.declared.lamps.Command.TheVariants as commands
use Rattle.eg_lamps.specs.declared.command.TheConstants.{NO_ROOM, STEP}
use Rattle.eg_lamps.specs.declared.grammar.TheConstants.{DIM, LIST, QUIT}

-- the number of a room, or one that no room has
abbrev pub room_of : Option Value → ℕ
room_of (Some (values.Hook id room)) = room
room_of value = NO_ROOM

-- what a value that was said so changes: a quoted text is a note, of at most 39 bytes; a number is by how much DIM
-- dims, or else how bright a lamp is to be
abbrev pub change_by : ℕ → Value → List ℕ → Change
change_by verb (values.Quoted span) said = Note (take NAME_LIMIT (unquoted said))
change_by verb (values.Number number) said = if verb == DIM then Dim number else Set number
change_by verb value said = Dim STEP

-- what a field of a line of this text changes; where there is none DIM goes by a step
abbrev pub change_of : ℕ → Option FieldView → List ℕ → Change
change_of verb (Some field) text = change_by verb field.value (said lamp_graph text field)
change_of verb None text = Dim STEP

-- the command that a keyword names, with its room and the field that says how much or what
abbrev pub by_verb : Option Value → ℕ → Option FieldView → List ℕ → Command
by_verb (Some (values.Key entry code)) room field text =
    if code == LIST then commands.List
    else (if code == QUIT then commands.Quit
    else commands.Change room (change_of code field text))
by_verb verb room field text = commands.Nothing

-- the field of role Verb names the command, that of role What its room, and that of role Value how much or what
abbrev pub command_of : SessionState → Command
command_of held =
    by_verb (value_of roles.Verb held.fields) (room_of (value_of roles.What held.fields))
    (field_of roles.Value held.fields) (text_of held)
