-- A confirmed line, and what its fields say.
use Rattle.std.specs.Prelude.{ℕ, ◌==◌, Bool, ℤ, List, [], ◌∷◌, if◌then◌else◌, map, slice_get, unwrap_or, Option, Some, None, option_map, option_and_then, is_some}
use Rattle.std.specs.Char.{to_ascii_uppercase}
use Rattle.std.specs.Option.{option_map_or, option_or}
use Rattle.cm_fields.specs.declared.value.Span.{Span}
use Rattle.cm_fields.specs.declared.value.Value.{Value}
use Rattle.cm_fields.specs.declared.value.Value.TheVariants as values
use Rattle.cm_files.specs.declared.flags.Flags.{Flags}
use Rattle.cm_files.specs.Catalogue.{Catalogue}
use Rattle.cm_files.specs.Spec.{part}
use Rattle.cm_blocks.specs.declared.function.Role.TheVariants as roles
use Rattle.cm_blocks.specs.declared.node.Block.{Block}
use Rattle.cm_blocks.specs.Grammar.{Graph}
use Rattle.cm_blocks.specs.FieldView.{FieldView}
use Rattle.cm_blocks.specs.Words.{no_flags}
use Rattle.cm_state.specs.Roles.{field_of}
pub use Rattle.cm_state.specs.FieldText.{default_of, node_of, said_of}
use Rattle.ex_store.specs.declared.place.Place.{Place}
use Rattle.ex_commands.specs.declared.command.Command.{Command}
use Rattle.ex_commands.specs.declared.command.Command.TheVariants as commands

-- [command] a finished line with its fields, the grammar that they are of, and the catalogue that their numbers mean
pub record Line : Type 0 where
  pub graph : Graph
  pub catalogue : Catalogue
  pub text : List ℕ
  pub fields : List FieldView

-- the block that took a field
abbrev pub block_of : Graph → FieldView → Option Block
block_of graph field = option_and_then (λ node. slice_get node.chain field.block) (node_of graph field)

-- the flags under which it was read
abbrev pub flags_of : Graph → FieldView → Flags
flags_of graph field = option_map_or (λ (block : Block). block.flags) (block_of graph field) no_flags

-- a part of a text, in upper case
abbrev pub upper : List ℕ → Span → List ℕ
upper text place = map to_ascii_uppercase (part text place)

-- the name of the directory with this number
abbrev pub directory_name : Catalogue → ℕ → List ℕ
directory_name c number = unwrap_or (slice_get c.directories number) []

-- the files that a value means: those of the directory that it was resolved to
abbrev pub place_by : Catalogue → Flags → List ℕ → Value → Option Place
place_by c flags text (values.File kind spec directory) = Some (record {
  directory = directory_name c directory;
  name = option_map (upper text) spec.name;
  kind = option_map (upper text) spec.kind;
  generation = spec.generation;
  flags = flags;
})
place_by c flags text value = None

-- the directory that a value names
abbrev pub directory_by : Catalogue → List ℕ → Value → Option (List ℕ)
directory_by c text (values.User directory) = Some (directory_name c directory)
directory_by c text (values.Directory directory) = Some (directory_name c directory)
directory_by c text (values.NewDirectory place) = Some (upper text place)
directory_by c text value = None

-- the code of a keyword
abbrev pub keyword_code : Value → ℕ
keyword_code (values.Key entry code) = code
keyword_code value = 0

-- the day that a value is
abbrev pub day_by : Value → Option ℤ
day_by (values.Date day) = Some day
day_by value = None

-- how many generations, as a rule judged it
abbrev pub count_by : Value → Option ℕ
count_by (values.Hook id count) = Some count
count_by value = None

abbrev pub count_in : Option FieldView → Option ℕ
count_in field = option_and_then (λ field. count_by field.value) field

-- the last field that a node took: of several the last counts
abbrev pub last_at : ℕ → List FieldView → Option FieldView
last_at node [] = None
last_at node (field ∷ more) = option_or (last_at node more) (if field.node == node then Some field else None)

-- what a field is for a line
abbrev pub place_in : Line → Option FieldView → Option Place
place_in line =
    option_and_then (λ field.
    place_by line.catalogue (flags_of line.graph field) (said_of line.graph line.text field) field.value)

abbrev pub directory_in : Line → Option FieldView → Option (List ℕ)
directory_in line =
    option_and_then (λ field. directory_by line.catalogue (said_of line.graph line.text field) field.value)

abbrev pub code_in : Option FieldView → ℕ
code_in field = option_map_or (λ (field : FieldView). keyword_code field.value) field 0

-- a command on what is said; where nothing is said there is nothing to do
abbrev pub on : {A : Type 0} → (A → Command) → Option A → Command
on command said = option_map_or command said commands.Empty

-- both, where both are said
abbrev pub both : Option Place → Option Place → Option (Place × Place)
both (Some from) (Some to) = Some (from, to)
both from to = None

-- a command from files to others
abbrev pub between : (Place → Place → Command) → Option Place → Option Place → Command
between command from to = on (λ files. command files.0 files.1) (both from to)

-- a comma is at its end, so that subcommands follow
abbrev pub has_subs : Line → Bool
has_subs line = is_some (field_of roles.Sub line.fields)
