-- Which bytes are an image, of which state, in either version; and where bytes that are none first go wrong.
use Rattle.std.specs.Prelude.{ℕ, ℤ, pos, ◌≡◌, ◌==◌, ◌+◌, ◌^◌, Bool, true, false, not, ◌&&◌, nat_lt, int_le, int_lt, List, [], ◌∷◌, ◌++◌, length, Option, Some, None, Err}
use Rattle.std.specs.List.{flat_map, list_all}
use Rattle.std.specs.Option.{is_some}
use Rattle.cm_files.specs.Catalogue.{is_directory_name}
use Rattle.ex_store.specs.declared.limits.TheConstants.{FORMS}
use Rattle.ex_store.specs.declared.row.Row.{Row}
use Rattle.ex_store.specs.Draft.{kept_by_directories}
use Rattle.ex_store.specs.State.{State}
use Rattle.ex_store.specs.WellFormed.{is_file_name, is_file_type}
use Rattle.cm_io.specs.declared.status.Kind.{Kind}
use Rattle.ex_image.specs.declared.tag.Tag.TheVariants as tags
use Rattle.ex_image.specs.declared.version.Version.{Version}
use Rattle.ex_image.specs.declared.version.Version.TheVariants as versions
use Rattle.ex_image.specs.Fields.{is_logical, is_note}
use Rattle.ex_image.specs.Reading.{Reading, fault_of, is_ended, may_follow, record_at, start, tag_of, with_record}
use Rattle.ex_image.specs.Record.{Entry, Head, Directory, Connected, Logical, File, Request, End, Stamp, record_text, stamp_of}

-- a number of at most ten digits
abbrev pub is_short : ℕ → Bool
is_short number = nat_lt number (10 ^ 10)

abbrev pub is_short_day : Option ℤ → Bool
is_short_day None = true
is_short_day (Some day) = int_le (pos 0) day && int_lt day (pos (10 ^ 10))

abbrev pub is_short_optional : Option ℕ → Bool
is_short_optional None = true
is_short_optional (Some number) = is_short number

-- version 1 has no words for a keep and for a moment of reading: there they are 0 and none
abbrev pub is_told_in : Version → Stamp → Bool
is_told_in versions.One stamp = stamp.keep == 0 && not (is_some stamp.read)
is_told_in versions.Two stamp = true

abbrev pub are_told_in : Version → List Row → Bool
are_told_in version rows = list_all (λ row. is_told_in version (stamp_of row)) rows

abbrev pub is_stamp : Version → Stamp → Bool
is_stamp version stamp =
    is_told_in version stamp && is_short stamp.keep && is_short stamp.moment && is_short_optional stamp.read

-- the names, numbers and words are of their forms
abbrev pub is_shaped : Entry → Bool
is_shaped (Head version) = true
is_shaped (Directory name retention) = is_directory_name name && is_short retention
is_shaped (Connected name) = is_directory_name name
is_shaped (Logical name directory) = is_logical name && is_directory_name directory
is_shaped (File version row size) =
    is_directory_name row.key.directory && is_file_name row.key.name && is_file_type row.key.kind
    && is_short row.file.generation && is_stamp version (stamp_of row) && is_short size && length row.file.bytes == 0
is_shaped (Request entry) =
    is_directory_name entry.file.key.directory && is_file_name entry.file.key.name && is_file_type entry.file.key.kind
    && is_short entry.file.generation && is_short entry.copies && nat_lt entry.form FORMS && is_short_day entry.after
    && is_file_name entry.job && is_note entry.note
is_shaped End = true

-- only a file has bytes after its line: as many as the line says
abbrev pub HasContent : Entry → List ℕ → Type 0
HasContent (Head version) bytes = bytes ≡ []
HasContent (Directory name retention) bytes = bytes ≡ []
HasContent (Connected name) bytes = bytes ≡ []
HasContent (Logical name directory) bytes = bytes ≡ []
HasContent (File version row size) bytes = length bytes ≡ size
HasContent (Request entry) bytes = bytes ≡ []
HasContent End bytes = bytes ≡ []

-- the line of a file is written in the version of the image
abbrev pub IsWrittenIn : Version → Entry → Type 0
IsWrittenIn version (File written row size) = written ≡ version
IsWrittenIn version entry = Unit {0}

-- a record may be after those that were read
pub record MayStand (reading : Reading) (next : Entry × List ℕ) : Type 0 where
  pub shape : is_shaped next.0 ≡ true
  pub written : IsWrittenIn reading.version next.0
  pub place : may_follow reading.last (tag_of next.0) ≡ true
  pub content : HasContent next.0 next.1
  pub faultless : fault_of reading.state next.0 ≡ None

-- each of these records may be after those before it
abbrev pub Leads : Reading → List (Entry × List ℕ) → Reading → Type 0
Leads from [] to = to ≡ from
Leads from (next ∷ more) to = MayStand from next × Leads (with_record from next) more to

-- the bytes begin with the texts of such records
unfoldable pub Makes : List ℕ → Reading → List ℕ → Type 0
Makes bytes reading rest =
    (records : List (Entry × List ℕ)) × Leads start records reading × (bytes ≡ flat_map record_text records ++ rest)

-- the bytes are an image in this version, whose records say this state: the texts of records, each of which may stand
-- after those before it, to the end
unfoldable pub IsImageIn : Version → List ℕ → State → Type 0
IsImageIn version bytes said = Makes bytes (record { version = version; last = tags.End; state = said }) []

-- the state of which an image is whose records say this: in version 1 each file keeps as many generations as its
-- directory, and was not read
abbrev pub state_in : Version → State → State
state_in versions.One said = kept_by_directories said
state_in versions.Two said = said

-- the bytes are an image of a state, in either version
unfoldable pub IsImage : List ℕ → State → Type 0
IsImage bytes state =
    (version : Version) × (said : State) × IsImageIn version bytes said × (state ≡ state_in version said)

-- the first wrong record of bytes that are no image: after records that may stand, and of which kind its fault is
pub record FirstBad (bytes : List ℕ) (place : ℕ) (kind : Kind) : Type 0 where
  pub reading : Reading
  pub rest : List ℕ
  pub made : Makes bytes reading rest
  pub placed : place + length rest ≡ length bytes
  pub goes_on : (is_ended reading.last && length rest == 0) ≡ false
  pub bad : record_at reading rest ≡ Err kind
