-- What a confirmed line commands.
use Rattle.std.specs.Prelude.{ℕ, ◌≡◌, ◌≤◌, ◌==◌, true, if◌then◌else◌, List, [], Option, None, Some, option_map}
use Rattle.std.specs.Option.{option_map_or}
use Rattle.cm_fields.specs.declared.value.Value.{Value}
use Rattle.cm_fields.specs.declared.value.Value.TheVariants as values
use Rattle.cm_files.specs.Catalogue.{Catalogue}
use Rattle.cm_blocks.specs.declared.function.Role.{Role}
use Rattle.cm_blocks.specs.declared.function.Role.TheVariants as roles
use Rattle.cm_blocks.specs.FieldView.{FieldView}
use Rattle.cm_state.specs.Roles.{field_of}
use Rattle.cm_state.specs.SessionState.{SessionState, text_of}
use Rattle.ex_commands.specs.Commands.Print.{quoted_by}
use Rattle.ex_commands.specs.Line.{directory_name}
use Rattle.ex_store.specs.State.{State, has_directory}
use Rattle.mm_mail.specs.declared.command.Command.{Command}
use Rattle.mm_mail.specs.declared.command.Command.TheVariants as commands
use Rattle.mm_mail.specs.declared.grammar.TheConstants.{DELETE, HEADERS, QUIT, READ, SEND}
use Rattle.mm_mail.specs.declared.message_name.TheConstants.{MOST_MESSAGES}

-- what the first field of a role stands for
abbrev pub value_of : Role → List FieldView → Option Value
value_of role fields = option_map (λ (field : FieldView). field.value) (field_of role fields)

-- the number of a message, as the hook judged it
abbrev pub number_by : Option Value → Option ℕ
number_by (Some (values.Hook id number)) = Some number
number_by value = None

abbrev pub number_in : List FieldView → Option ℕ
number_in fields = number_by (value_of roles.Value fields)

-- the directory that is to receive a message
abbrev pub receiver_by : Catalogue → Option Value → Option (List ℕ)
receiver_by c (Some (values.User directory)) = Some (directory_name c directory)
receiver_by c value = None

abbrev pub receiver_in : Catalogue → List FieldView → Option (List ℕ)
receiver_in c fields = receiver_by c (value_of roles.Files fields)

-- what a message is about: what its quoted text says
abbrev pub subject_in : SessionState → List ℕ
subject_in held =
    option_map_or (λ (field : FieldView). quoted_by (text_of held) field.value) (field_of roles.Value held.fields) []

-- a command on what is said; where nothing is said there is nothing to do
abbrev pub on : {A : Type 0} → (A → Command) → Option A → Command
on command said = option_map_or command said commands.Empty

abbrev pub sends_of : Catalogue → SessionState → Command
sends_of c held = on (λ (receiver : List ℕ). commands.Send receiver (subject_in held)) (receiver_in c held.fields)

-- the command that a keyword names
abbrev pub named : ℕ → Catalogue → SessionState → Command
named verb c held =
    if verb == DELETE then on commands.Delete (number_in held.fields)
    else (if verb == HEADERS then commands.Headers
    else (if verb == QUIT then commands.Quit
    else (if verb == READ then on commands.Read (number_in held.fields)
    else (if verb == SEND then sends_of c held else commands.Empty))))

abbrev pub by_verb : Option Value → Catalogue → SessionState → Command
by_verb (Some (values.Key entry code)) c held = named code c held
by_verb value c held = commands.Empty

-- the field of role Verb names the command, that of role Files who receives, and that of role Value the number of a
-- message or a subject
abbrev pub command_of : Catalogue → SessionState → Command
command_of c held = by_verb (value_of roles.Verb held.fields) c held

-- a command that can be done: its number is one that a message may have, and its receiver is there
abbrev pub MayAct : Command → State → Type 0
MayAct (commands.Delete number) state = number ≤ MOST_MESSAGES
MayAct (commands.Read number) state = number ≤ MOST_MESSAGES
MayAct (commands.Send receiver subject) state = has_directory receiver state.directories ≡ true
MayAct commands.Empty state = Unit {0}
MayAct commands.Headers state = Unit {0}
MayAct commands.Quit state = Unit {0}
