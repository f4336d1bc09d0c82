-- The interfaces of the console, what a confirmed line makes of them, and what it shows.
use Rattle.std.specs.Prelude.{ℕ, ◌==◌, ◌++◌, false, if◌then◌else◌, List, [], codes, length, map, take, drop, Option, Some, None, slice_get, slice_set, unsigned_abs}
use Rattle.std.specs.Fmt.{decimal}
use Rattle.std.specs.Option.{option_map_or}
use Rattle.cm_text.specs.declared.name.TheConstants.{NAME_LIMIT}
use Rattle.cm_fields.specs.Quoted.{unquoted}
use Rattle.cm_fields.specs.declared.value.Value.{Value}
use Rattle.cm_fields.specs.declared.value.Value.TheVariants as values
use Rattle.cm_files.specs.OneDirectory.{no_files}
use Rattle.cm_blocks.specs.FieldView.{FieldView}
use Rattle.cm_blocks.specs.declared.function.Role.TheVariants.{Own, Sub, Verb, What}
use Rattle.cm_state.specs.FieldText.{said}
use Rattle.cm_state.specs.Roles.{field_of, value_of}
use Rattle.cm_state.specs.SessionState.{SessionState, text_of}
use Rattle.cm_state.specs.declared.prompt.Prompt.TheVariants.{Main}
use Rattle.cm_run.specs.LineSemantics.{LineSemantics}
use Rattle.eg_console.specs.Graph.{console_graph}
use Rattle.eg_console.specs.Rules.{console_meanings, names}
use Rattle.eg_console.specs.declared.console.Interface.{Interface}
use Rattle.eg_console.specs.declared.program.Console.{Console}

-- the number that a value is: the code of a keyword, the size of a number, or what a hook made of its field; or this
-- where there is none
abbrev pub number_or : ℕ → Option Value → ℕ
number_or other (Some (values.Key entry code)) = code
number_or other (Some (values.Integer number)) = unsigned_abs number
number_or other (Some (values.Hook id number)) = number
number_or other value = other

-- what a field said, in which no quote is, or this where there is none
abbrev pub said_or : List ℕ → List ℕ → Option FieldView → List ℕ
said_or other text (Some field) = take NAME_LIMIT (unquoted (said console_graph text field))
said_or other text None = other

-- an interface at the start: no address, 1500 bytes, and its speed found by itself
abbrev pub fresh : List ℕ → Interface
fresh name = record { name = name; address = []; mtu = 1500; speed = 0 }

-- an interface with the options of a line; the others stay
abbrev pub changed : SessionState → Interface → Interface
changed line it = record it {
  address = said_or it.address (text_of line) (field_of (Own 0) line.fields);
  mtu = number_or it.mtu (value_of (Own 1) line.fields);
  speed = number_or it.speed (value_of (Own 2) line.fields);
}

-- the number of the interface that a line names, or one that none has
abbrev pub number_of : SessionState → ℕ
number_of line = number_or 4 (value_of What line.fields)

-- [interface] a line changes the interface that it names
abbrev pub obeyed : SessionState → List Interface → List Interface
obeyed line interfaces =
    option_map_or (λ (it : Interface). slice_set interfaces (number_of line) (changed line it))
    (slice_get interfaces (number_of line)) interfaces

-- `show` shows all interfaces, and after the name of one that one
abbrev pub shown : SessionState → List Interface → List Interface
shown line interfaces =
    if number_or 0 (value_of Verb line.fields) == 3 then interfaces
    else (if number_or 0 (value_of Sub line.fields) == 3 then take 1 (drop (number_of line) interfaces) else [])

-- the row of an interface: `eth0 address 10.0.0.1/8 mtu 1500 speed auto`, where it has one
unfoldable pub row : Interface → List ℕ
row it =
    it.name ++ (if length it.address == 0 then [] else codes " address ") ++ it.address
    ++ codes " mtu " ++ decimal it.mtu ++ codes " speed "
    ++ (if it.speed == 0 then codes "auto" else decimal it.speed)

abbrev pub console_start : Console
console_start = record { grammar = tt; names = no_files; interfaces = map fresh names; has_quit = false }

-- a confirmed line changes the interface that it names and shows its rows, and quit ends the run
abbrev pub console_semantics : LineSemantics Console
console_semantics = record {
  graph_of = λ at. console_graph;
  rules_of = λ at. console_meanings;
  catalogue_of = λ at. at.names;
  line_of = λ at. if at.has_quit then None else Some (0, Main);
  state_of = λ at line. record at {
    interfaces = obeyed line at.interfaces;
    has_quit = number_or 0 (value_of Verb line.fields) == 2;
  };
  reply_of = λ at line. map row (shown line at.interfaces);
}
