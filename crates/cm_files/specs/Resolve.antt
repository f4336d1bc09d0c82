-- What a file specification means in a catalogue, or the first reason why it means nothing (GTJFN).
use Rattle.std.specs.Prelude.{ℕ, Bool, true, false, not, ◌||◌, ◌&&◌, if◌then◌else◌, List, [], codes, is_none, Option, Some, None, Result, Ok, Err}
use Rattle.std.specs.List.{list_any, position_from}
use Rattle.cm_text.specs.Case.{equals}
use Rattle.cm_fields.specs.declared.code.Code.{Code}
use Rattle.cm_fields.specs.declared.code.Code.TheVariants.{SpecShape, GenRange, WildHere, Device, NoLogical, NoDirectory, NoFile}
use Rattle.cm_fields.specs.declared.value.Gen.{Gen}
use Rattle.cm_fields.specs.declared.value.Gen.TheVariants.{Missing, Highest, Next, Lowest, All, Number}
use Rattle.cm_fields.specs.declared.value.Span.{Span}
use Rattle.cm_fields.specs.declared.value.Spec.{Spec}
use Rattle.cm_fields.specs.declared.value.FileKind.{FileKind}
use Rattle.cm_fields.specs.declared.value.FileKind.TheVariants.{In, Out, Any}
use Rattle.cm_files.specs.declared.flags.Flags.{Flags}
use Rattle.cm_files.specs.Catalogue.{Catalogue, logical_of, rows_of}
use Rattle.cm_files.specs.Pattern.{is_wild}
use Rattle.cm_files.specs.Selection.{Wanted, selects}
use Rattle.cm_files.specs.Spec.{part}

-- a refusal where a test says so, else what comes next
abbrev pub refuse : {X : Type 0} → Bool → Code → Result X Code → Result X Code
refuse true code next = Err code
refuse false code next = next

-- what comes next in a directory, unless there is a refusal instead
abbrev pub then_in : {X : Type 0} → Result ℕ Code → (ℕ → Result X Code) → Result X Code
then_in (Ok directory) next = next directory
then_in (Err code) next = Err code

-- a part is given that has a wildcard
abbrev pub has_wild : List ℕ → Option Span → Bool
has_wild atom None = false
has_wild atom (Some place) = list_any is_wild (part atom place)

-- a part is given that has a wildcard and more than one `*`
abbrev pub has_wild_and_more : List ℕ → Option Span → Bool
has_wild_and_more atom None = false
has_wild_and_more atom (Some place) = list_any is_wild (part atom place) && not (equals (part atom place) (codes "*"))

-- all generations are meant
abbrev pub is_all : Gen → Bool
is_all All = true
is_all Missing = false
is_all Highest = false
is_all Next = false
is_all Lowest = false
is_all (Number number) = false

-- a file is wanted and none is named, though nothing stands for a name that is not given
abbrev pub lacks_name : Flags → Spec → Bool
lacks_name flags spec = is_none spec.name && not (flags.default_all || flags.from_source)

-- a generation that cannot be read, or one that cannot be written
abbrev pub is_bad_generation : FileKind → Gen → Bool
is_bad_generation In Next = true
is_bad_generation Out Highest = true
is_bad_generation Out Lowest = true
is_bad_generation kind generation = false

-- a wildcard that may not be in a file that is written: such a name is copied whole or given whole
abbrev pub has_bad_copy : FileKind → List ℕ → Spec → Bool
has_bad_copy In atom spec = false
has_bad_copy Any atom spec = false
has_bad_copy Out atom spec =
    is_all spec.generation || has_wild_and_more atom spec.name || has_wild_and_more atom spec.kind

-- a wildcard where none may stand
abbrev pub has_bad_wild : FileKind → Flags → List ℕ → Spec → Bool
has_bad_wild kind flags atom spec =
    has_wild atom spec.directory
    || (not flags.wild && (has_wild atom spec.name || has_wild atom spec.kind || is_all spec.generation))
    || has_bad_copy kind atom spec

-- the directory, or a refusal where there is none
abbrev pub or_refused : Code → Option ℕ → Result ℕ Code
or_refused code None = Err code
or_refused code (Some directory) = Ok directory

-- the directory that a device means: PS and DSK the connected one, as no device does, TTY none, and a logical
-- name the one that it stands for
abbrev pub by_device : Catalogue → List ℕ → Option Span → Result ℕ Code
by_device c atom None = Ok c.connected
by_device c atom (Some place) =
    let device = part atom place in
    if equals device (codes "TTY") then Err Device
    else (if equals device (codes "PS") || equals device (codes "DSK") then Ok c.connected
    else or_refused NoLogical (logical_of c device))

-- a directory has this name
abbrev pub is_named : List ℕ → List ℕ → Bool
is_named name directory = equals directory name

-- the number of the directory with this name
abbrev pub directory_named : Catalogue → List ℕ → Option ℕ
directory_named c name = position_from (is_named name) 0 c.directories

-- the directory that is named, in place of the one that the device means
abbrev pub by_directory : Catalogue → List ℕ → Option Span → ℕ → Result ℕ Code
by_directory c atom None meant = Ok meant
by_directory c atom (Some place) meant = or_refused NoDirectory (directory_named c (part atom place))

-- the pattern of a name: none where none is given and nothing stands for it
abbrev pub wanted_name : Flags → List ℕ → Option Span → Option (List ℕ)
wanted_name flags atom None = if flags.default_all then Some (codes "*") else None
wanted_name flags atom (Some place) = Some (part atom place)

-- the pattern of a type: where none is given and nothing stands for it, the empty one
abbrev pub wanted_kind : Flags → List ℕ → Option Span → List ℕ
wanted_kind flags atom None = if flags.default_all then codes "*" else []
wanted_kind flags atom (Some place) = part atom place

-- what files a specification looks for
abbrev pub wanted_by : Flags → List ℕ → Spec → Wanted
wanted_by flags atom spec =
    record {
      name = wanted_name flags atom spec.name;
      kind = wanted_kind flags atom spec.kind;
      generation = spec.generation;
      all_generations = flags.all_generations;
      deleted = flags.deleted;
    }

-- a file that is read is there already
abbrev pub is_in : FileKind → Bool
is_in In = true
is_in Out = false
is_in Any = false

-- [file-field] the directory that a file's specification means, or the first refusal
unfoldable pub resolve : Catalogue → FileKind → Flags → List ℕ → Spec → Result ℕ Code
resolve c kind flags atom spec =
    refuse (lacks_name flags spec) SpecShape
    (refuse (is_bad_generation kind spec.generation) GenRange
    (refuse (has_bad_wild kind flags atom spec) WildHere
    (then_in (by_device c atom spec.device) (λ meant.
    then_in (by_directory c atom spec.directory meant) (λ directory.
    refuse (is_in kind && not (selects (wanted_by flags atom spec) (rows_of c directory))) NoFile (Ok directory))))))
