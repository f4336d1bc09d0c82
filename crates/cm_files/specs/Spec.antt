-- The text of a file specification, `device:<directory>name.type.generation` (GTJFN).
use Rattle.std.specs.Prelude.{ℕ, ◌+◌, ◌-◌, ◌≤◌, ◌==◌, Bool, false, ◌||◌, ◌&&◌, nat_lt, nat_le, if◌then◌else◌, List, [], length, take, drop, slice_get, codes, Option, Some, None, option_and_then, Result, Ok, Err}
use Rattle.std.specs.Char.{is_ascii_digit}
use Rattle.std.specs.List.{list_all, prefix_len, slice_split}
use Rattle.std.specs.Option.{option_map_or}
use Rattle.std.specs.Str.Parse.{digits_value}
use Rattle.cm_text.specs.Bytes.{is_name}
use Rattle.cm_text.specs.Case.{equals}
use Rattle.cm_text.specs.declared.name.TheConstants.{NAME_LIMIT}
use Rattle.cm_fields.specs.declared.value.Gen.{Gen}
use Rattle.cm_fields.specs.declared.value.Gen.TheVariants as generations
use Rattle.cm_fields.specs.declared.value.Span.{Span}
use Rattle.cm_fields.specs.declared.value.Spec.{Spec}
use Rattle.cm_fields.specs.Try.{span}
use Rattle.cm_files.specs.declared.generation.TheConstants.{GENERATION_LIMIT}
use Rattle.cm_files.specs.declared.parts.Parts.{Parts}
use Rattle.cm_files.specs.declared.parts.Read.{Read}
use Rattle.cm_files.specs.declared.spec.SpecFault.{SpecFault}
use Rattle.cm_files.specs.declared.spec.SpecFault.TheVariants.{Shape, NameLong, GenRange}
use Rattle.cm_files.specs.Pattern.{is_wild}

-- a byte of a name, a type or a generation, wildcards among them
abbrev pub is_pattern : ℕ → Bool
is_pattern byte = is_name byte || is_wild byte

-- a byte of a directory's name, wildcards among them
abbrev pub is_path : ℕ → Bool
is_path byte = is_pattern byte || byte == 46

-- this byte is at a place
abbrev pub stands_at : List ℕ → ℕ → ℕ → Bool
stands_at atom place byte = option_map_or (λ other. other == byte) (slice_get atom place) false

-- parts that are not empty, with single points between
abbrev pub are_parts : List ℕ → Bool
are_parts path = list_all (λ part. nat_lt 0 (length part)) (slice_split (λ byte. byte == 46) path)

-- a part from a place on, of this size, before or after marks of which nothing is said; and no part
abbrev pub part_read : ℕ → ℕ → ℕ → Read
part_read start size next = record { part = Some (span start size); next = next }

abbrev pub nothing_read : ℕ → Read
nothing_read at = record { part = None; next = at }

-- the device: name bytes before a colon
abbrev pub device_read : List ℕ → Read
device_read atom =
    let size = prefix_len is_name atom in
    if nat_lt 0 size && stands_at atom size 58 then part_read 0 size (size + 1) else nothing_read 0

-- the directory, between angle brackets; none where they do not hold the name of one
abbrev pub directory_read : List ℕ → ℕ → Option Read
directory_read atom at =
    if stands_at atom at 60
    then (let size = prefix_len is_path (drop (at + 1) atom) in
    if stands_at atom (at + 1 + size) 62 && are_parts (take size (drop (at + 1) atom))
    then Some (part_read (at + 1) size (at + size + 2)) else None)
    else Some (nothing_read at)

-- the name; nothing of it where the atom ends here, and none where another byte is here
abbrev pub name_read : List ℕ → ℕ → Option Read
name_read atom at =
    let size = prefix_len is_pattern (drop at atom) in
    if nat_lt 0 size then Some (part_read at size (at + size))
    else (if at == length atom then Some (nothing_read at) else None)

-- a type or a generation, after a point
abbrev pub pointed_read : List ℕ → ℕ → Read
pointed_read atom at =
    if stands_at atom at 46
    then (let size = prefix_len is_pattern (drop (at + 1) atom) in part_read (at + 1) size (at + 1 + size))
    else nothing_read at

-- after device, directory and name come a type and a generation, and then the atom ends
abbrev pub parts_after : List ℕ → Option Span → Option Span → Read → Option Parts
parts_after atom device directory name =
    let kind = pointed_read atom name.next in
    let generation = pointed_read atom kind.next in
    if generation.next == length atom
    then Some (record {
      device = device;
      directory = directory;
      name = name.part;
      kind = kind.part;
      generation = generation.part;
    })
    else None

-- after the device and the directory comes the name
abbrev pub name_after : List ℕ → Option Span → Read → Option Parts
name_after atom device directory =
    option_and_then (parts_after atom device directory.part) (name_read atom directory.next)

-- the parts of an atom, in their order; none where it is no specification
abbrev pub parts_of : List ℕ → Option Parts
parts_of atom =
    let device = device_read atom in
    if length atom == 0 then None
    else option_and_then (name_after atom device.part) (directory_read atom device.next)

-- the bytes of a part
abbrev pub part : List ℕ → Span → List ℕ
part atom place = take (place.end - place.start) (drop place.start atom)

-- the bytes of a part that may not be given
abbrev pub part_or_nothing : List ℕ → Option Span → List ℕ
part_or_nothing atom None = []
part_or_nothing atom (Some place) = part atom place

-- a part is given that is longer than a name may be
abbrev pub is_long : Option Span → Bool
is_long None = false
is_long (Some place) = nat_lt (place.start + NAME_LIMIT) place.end

-- the generation of this number: the highest by 0; none past the last that there may be
abbrev pub numbered : ℕ → Option Gen
numbered value =
    if value == 0 then Some generations.Highest
    else (if nat_le value GENERATION_LIMIT then Some (generations.Number value) else None)

-- which generations a text means; none where it means none
unfoldable pub generation_of : List ℕ → Option Gen
generation_of text =
    if length text == 0 then Some generations.Missing
    else (if equals text (codes "*") || equals text (codes "-3") then Some generations.All
    else (if equals text (codes "-1") then Some generations.Next
    else (if equals text (codes "-2") then Some generations.Lowest
    else (if list_all is_ascii_digit text then numbered (digits_value 10 text) else None))))

-- the specification of these parts
abbrev pub with_generation : Parts → Option Gen → Result Spec SpecFault
with_generation parts None = Err GenRange
with_generation parts (Some generation) =
    Ok (record {
      device = parts.device;
      directory = parts.directory;
      name = parts.name;
      kind = parts.kind;
      generation = generation;
    })

-- no part is too long, and the generation is one
abbrev pub by_parts : List ℕ → Option Parts → Result Spec SpecFault
by_parts atom None = Err Shape
by_parts atom (Some parts) =
    if is_long parts.device || is_long parts.directory || is_long parts.name || is_long parts.kind then Err NameLong
    else with_generation parts (generation_of (part_or_nothing atom parts.generation))

-- what an atom says
abbrev pub read_spec : List ℕ → Result Spec SpecFault
read_spec atom = by_parts atom (parts_of atom)

-- a part, where it is given, is one of so many bytes
abbrev pub IsPartOf : ℕ → Option Span → Type 0
IsPartOf size None = Unit {0}
IsPartOf size (Some place) = (place.start ≤ place.end) × (place.end ≤ size)

-- all parts of a specification are parts of so many bytes
pub record IsSpecOf (size : ℕ) (spec : Spec) : Type 0 where
  pub device : IsPartOf size spec.device
  pub directory : IsPartOf size spec.directory
  pub name : IsPartOf size spec.name
  pub kind : IsPartOf size spec.kind

-- the same of what is read on the way
pub record IsReadOf (size : ℕ) (read : Read) : Type 0 where
  pub part : IsPartOf size read.part
  pub next : read.next ≤ size

pub record HasPartsOf (size : ℕ) (parts : Parts) : Type 0 where
  pub device : IsPartOf size parts.device
  pub directory : IsPartOf size parts.directory
  pub name : IsPartOf size parts.name
  pub kind : IsPartOf size parts.kind
  pub generation : IsPartOf size parts.generation
