-- What a confirmed line commands.
use Rattle.std.specs.Prelude.{ℕ, ◌==◌, ◌||◌, true, false, List, [], take, map, if◌then◌else◌, Option, Some}
use Rattle.std.specs.Char.{to_ascii_uppercase}
use Rattle.std.specs.Option.{option_map_or}
use Rattle.cm_text.specs.declared.name.TheConstants.{NAME_LIMIT}
use Rattle.cm_fields.specs.Quoted.{unquoted}
use Rattle.cm_fields.specs.declared.value.Value.{Value}
use Rattle.cm_fields.specs.declared.value.Value.TheVariants as values
use Rattle.cm_blocks.specs.declared.function.Role.{Role}
use Rattle.cm_blocks.specs.declared.function.Role.TheVariants as roles
use Rattle.cm_blocks.specs.FieldView.{FieldView}
use Rattle.cm_state.specs.SessionState.{SessionState, text_of}
use Rattle.cm_state.specs.Roles.{field_of, value_of}
use Rattle.cm_state.specs.FieldText.{said}
use Rattle.eg_router.specs.Graph.{router_graph}
use Rattle.eg_router.specs.declared.command.Command.{Command}
use Rattle.eg_router.specs.declared.command.Command.TheVariants as commands
use Rattle.eg_router.specs.declared.command.Shown.TheVariants as shown
use Rattle.eg_router.specs.declared.grammar.TheConstants.{ADDRESS, CONFIGURE, DESCRIPTION, ENABLE, END, EXIT, INTERFACE, NO, ROUTER, RUNNING, SHOW, SHUTDOWN, VERSION}
use Rattle.eg_router.specs.declared.interface.Change.TheVariants as changes
use Rattle.eg_router.specs.declared.router.Mode.TheVariants as modes

-- the code of a keyword, or one that no keyword has
abbrev pub code_by : Option Value → ℕ
code_by (Some (values.Key entry code)) = code
code_by value = 0

-- what the first field of a role said, and nothing where there is none
abbrev pub said_by : Role → SessionState → List ℕ
said_by role held =
    option_map_or (λ (field : FieldView). said router_graph (text_of held) field) (field_of role held.fields) []

-- the name of an interface as the router keeps it: at most 39 bytes, in upper case
abbrev pub upper : List ℕ → List ℕ
upper text = map to_ascii_uppercase (take NAME_LIMIT text)

abbrev pub name_of : SessionState → List ℕ
name_of held = upper (said_by roles.Files held)

-- what DESCRIPTION or ADDRESS says, at most 39 bytes
abbrev pub setting_of : SessionState → List ℕ
setting_of held = take NAME_LIMIT (unquoted (said_by roles.Value held))

-- what SHOW shows, by its keyword
abbrev pub shown_by : ℕ → Command
shown_by what =
    if what == INTERFACE then commands.Show shown.Interfaces
    else (if what == RUNNING then commands.Show shown.Configuration
    else (if what == VERSION then commands.Show shown.Version else commands.Nothing))

-- what NO takes back, by its keyword
abbrev pub taken_back : ℕ → SessionState → Command
taken_back what held =
    if what == INTERFACE then commands.NoInterface (name_of held)
    else (if what == ADDRESS then commands.Set (changes.Address [])
    else (if what == DESCRIPTION then commands.Set (changes.Description [])
    else (if what == SHUTDOWN then commands.Set (changes.Shutdown false) else commands.Nothing)))

-- the command that a keyword names
abbrev pub named : ℕ → SessionState → Command
named verb held =
    if verb == ENABLE || verb == END then commands.Go modes.Privileged
    else (if verb == CONFIGURE then commands.Go modes.Configuration
    else (if verb == ROUTER then commands.Go modes.Protocol
    else (if verb == EXIT then commands.Exit
    else (if verb == INTERFACE then commands.Interface (name_of held)
    else (if verb == SHOW then shown_by (code_by (value_of roles.What held.fields))
    else (if verb == NO then taken_back (code_by (value_of roles.What held.fields)) held
    else (if verb == ADDRESS then commands.Set (changes.Address (setting_of held))
    else (if verb == DESCRIPTION then commands.Set (changes.Description (setting_of held))
    else (if verb == SHUTDOWN then commands.Set (changes.Shutdown true) else commands.Nothing)))))))))

-- the field of role Verb names the command, that of role What what it shows or takes back, that of role Files an
-- interface, that of role Value a description or an address
abbrev pub command_of : SessionState → Command
command_of held = named (code_by (value_of roles.Verb held.fields)) held
