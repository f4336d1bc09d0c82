-- What is read at a position, and where two positions read the same.
use Rattle.std.specs.Prelude.{ℕ, ◌==◌, ◌-◌, Bool, ◌&&◌, if◌then◌else◌, List, [], map, Option, None, Some, option_and_then, slice_get}
use Rattle.std.specs.Char.{to_ascii_lowercase}
use Rattle.std.specs.Cmp.Lexicographic.{pointwise}
use Rattle.std.specs.Option.{option_eq}
use Rattle.std.specs.Str.{bytes_eq}
use Rattle.cm_synopsis.specs.CommandView.{CommandView}
use Rattle.cm_synopsis.specs.declared.field.Kind.{Kind}
use Rattle.cm_synopsis.specs.declared.field.Kind.TheVariants.{Class, Date, Ipv4, Ipv4Prefix, Ipv6, Ipv6Prefix, Listed, Mac, Number, Quoted, Rest, Word}
use Rattle.cm_synopsis.specs.declared.part.Part.{Part}
use Rattle.cm_synopsis.specs.declared.part.Part.TheVariants.{Field, Guide, Keyword, Lead, Switch}
use Rattle.cm_synopsis.specs.declared.way.Step.{Step}
use Rattle.cm_synopsis.specs.Ways.{Way}
use Rattle.cm_language.specs.declared.place.Position.{Position}

-- the step that a position is behind, numbered from 1: none at a start, nor where its command or step is not there
abbrev pub step_of : List Way → Position → Option Step
step_of ways position =
    if position.step == 0 then None
    else option_and_then (λ (way : Way). slice_get way.steps (position.step - 1))
    (slice_get ways position.command)

-- the part that it is behind
abbrev pub part_at : List CommandView → ℕ → Option Step → Option Part
part_at commands command None = None
part_at commands command (Some step) =
    option_and_then (λ (it : CommandView). slice_get it.parts step.part) (slice_get commands command)

abbrev pub part_of : List CommandView → List Way → Position → Option Part
part_of commands ways position = part_at commands position.command (step_of ways position)

-- the range of its step
abbrev pub range_of : List Way → Position → Option (ℕ × ℕ)
range_of ways position = option_and_then (λ (step : Step). step.range) (step_of ways position)

abbrev pub is_same_pair : ℕ × ℕ → ℕ × ℕ → Bool
is_same_pair range other = range.0 == other.0 && range.1 == other.1

abbrev pub is_same_range : Option (ℕ × ℕ) → Option (ℕ × ℕ) → Bool
is_same_range range other = option_eq is_same_pair range other

-- kinds are the same by their numbers, lists and classes by what they are of
abbrev pub kind_number : Kind → ℕ
kind_number Number = 0
kind_number Word = 1
kind_number Quoted = 2
kind_number Date = 3
kind_number Rest = 4
kind_number Ipv4 = 5
kind_number Ipv4Prefix = 6
kind_number Ipv6 = 7
kind_number Ipv6Prefix = 8
kind_number Mac = 9
kind_number (Listed list) = 10
kind_number (Class set) = 11

abbrev pub kind_detail : Kind → ℕ
kind_detail (Listed list) = list
kind_detail (Class set) = set
kind_detail kind = 0

abbrev pub is_same_kind : Kind → Kind → Bool
is_same_kind kind other = kind_number kind == kind_number other && kind_detail kind == kind_detail other

-- a keyword, a guide word, a field, a switch, a switch before its field; another part reads nothing
abbrev pub part_number : Part → ℕ
part_number (Keyword name) = 0
part_number (Guide name) = 1
part_number (Field name kinds) = 2
part_number (Switch name) = 3
part_number (Lead name) = 4
part_number part = 5

-- its name: letters of keywords and switches have no case
abbrev pub part_name : Part → List ℕ
part_name (Keyword name) = map to_ascii_lowercase name
part_name (Guide name) = name
part_name (Field name kinds) = name
part_name (Switch name) = map to_ascii_lowercase name
part_name (Lead name) = map to_ascii_lowercase name
part_name part = []

abbrev pub part_kinds : Part → List Kind
part_kinds (Field name kinds) = kinds
part_kinds part = []

abbrev pub is_same_part : Part → Part → Bool
is_same_part part other =
    part_number part == part_number other
    && (bytes_eq (part_name part) (part_name other) && pointwise is_same_kind (part_kinds part) (part_kinds other))

-- what reads nothing reads the same as what reads nothing
abbrev pub is_same_found : Option Part → Option Part → Bool
is_same_found part other = option_eq is_same_part part other

-- two positions read the same where their parts and ranges do
unfoldable pub is_same_reading : List CommandView → List Way → Position → Position → Bool
is_same_reading commands ways one other =
    is_same_range (range_of ways one) (range_of ways other)
    && is_same_found (part_of commands ways one) (part_of commands ways other)
