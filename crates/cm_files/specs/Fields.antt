-- Users, directories and files, each a run of bytes (.CMUSR, .CMDIR, .CMIFI, .CMOFI, .CMFIL).
use Rattle.std.specs.Prelude.{ℕ, ◌+◌, ◌==◌, Bool, not, ◌||◌, ◌&&◌, nat_lt, if◌then◌else◌, List, length, is_some, is_none, Option, Some, None, option_map, Result, Ok, Err}
use Rattle.std.specs.List.{list_all, list_any, position_from, prefix_len}
use Rattle.cm_text.specs.Bytes.{is_name}
use Rattle.cm_text.specs.Case.{equals}
use Rattle.cm_fields.specs.declared.code.Code.{Code}
use Rattle.cm_fields.specs.declared.code.Code.TheVariants.{SpecShape, WildHere, NoDirectory, NoUser}
use Rattle.cm_fields.specs.declared.code.Code.TheVariants as codes
use Rattle.cm_fields.specs.declared.trial.Try.{Try}
use Rattle.cm_fields.specs.declared.value.Span.{Span}
use Rattle.cm_fields.specs.declared.value.Spec.{Spec}
use Rattle.cm_fields.specs.declared.value.Value.{Value}
use Rattle.cm_fields.specs.declared.value.Value.TheVariants as values
use Rattle.cm_fields.specs.Try.{by_run}
use Rattle.cm_fields.specs.declared.value.FileKind.{FileKind}
use Rattle.cm_files.specs.declared.flags.Flags.{Flags}
use Rattle.cm_files.specs.declared.spec.SpecFault.{SpecFault}
use Rattle.cm_files.specs.declared.spec.SpecFault.TheVariants.{Shape, NameLong, GenRange}
use Rattle.cm_files.specs.Catalogue.{Catalogue}
use Rattle.cm_files.specs.Resolve.{by_device, by_directory, has_wild, refuse, resolve, then_in}
use Rattle.cm_files.specs.Spec.{is_path, read_spec, stands_at}

-- a byte that may be in a file specification
abbrev pub is_file : ℕ → Bool
is_file byte = is_path byte || byte == 58 || byte == 60 || byte == 62

-- a byte of a directory's name
abbrev pub is_plain_path : ℕ → Bool
is_plain_path byte = is_name byte || byte == 46

-- a directory whose name has no point is that of a user
abbrev pub is_user : List ℕ → Bool
is_user directory = not (list_any (λ byte. byte == 46) directory)

-- the refusal that a fault of a specification is
abbrev pub refusal : SpecFault → Code
refusal Shape = SpecShape
refusal NameLong = codes.NameLong
refusal GenRange = codes.GenRange

-- a part of the text from a place on, and a specification of it, as parts of the whole text
abbrev pub moved : ℕ → Span → Span
moved at place = record { start = at + place.start; end = at + place.end }

abbrev pub moved_spec : ℕ → Spec → Spec
moved_spec at spec =
    record {
      device = option_map (moved at) spec.device;
      directory = option_map (moved at) spec.directory;
      name = option_map (moved at) spec.name;
      kind = option_map (moved at) spec.kind;
      generation = spec.generation;
    }

-- the file of a specification in a directory
abbrev pub file_in : FileKind → ℕ → Spec → ℕ → Result Value Code
file_in kind at spec directory = Ok (values.File kind (moved_spec at spec) directory)

-- what a run that is read says as a file
abbrev pub file_read : Catalogue → FileKind → Flags → ℕ → List ℕ → Result Spec SpecFault → Result Value Code
file_read c kind flags at run (Err fault) = Err (refusal fault)
file_read c kind flags at run (Ok spec) = then_in (resolve c kind flags run spec) (file_in kind at spec)

-- what a run says as a file
unfoldable pub file_of : Catalogue → FileKind → Flags → ℕ → List ℕ → Result Value Code
file_of c kind flags at run = file_read c kind flags at run (read_spec run)

-- a file specification
abbrev pub file : Catalogue → FileKind → Flags → List ℕ → ℕ → Try
file c kind flags rest at = by_run is_file (file_of c kind flags at) rest at

-- the name between angle brackets of a directory that may be a new one
abbrev pub new_directory : ℕ → Option Span → Result Value Code
new_directory at None = Err SpecShape
new_directory at (Some place) = Ok (values.NewDirectory (moved at place))

-- a directory that is there
abbrev pub old_directory : ℕ → Result Value Code
old_directory directory = Ok (values.Directory directory)

-- what a run that is read says as a directory: it has no name of a file, and a new one is named; a device is
-- asked about where the directory is named too
abbrev pub directory_read : Bool → Catalogue → ℕ → List ℕ → Result Spec SpecFault → Result Value Code
directory_read new c at run (Err fault) = Err (refusal fault)
directory_read new c at run (Ok spec) =
    refuse (is_some spec.name || (new && is_none spec.directory)) SpecShape
    (refuse (has_wild run spec.directory) WildHere
    (then_in (by_device c run spec.device) (λ meant.
    if new then new_directory at spec.directory else then_in (by_directory c run spec.directory meant) old_directory)))

-- what a run says as a directory: a name with no brackets is none that is there
unfoldable pub directory_of : Bool → Catalogue → ℕ → List ℕ → Result Value Code
directory_of new c at run =
    refuse (not new && nat_lt 0 (length run) && list_all is_plain_path run) NoDirectory
    (directory_read new c at run (read_spec run))

-- a directory
abbrev pub directory : Bool → Catalogue → List ℕ → ℕ → Try
directory new c rest at = by_run is_file (directory_of new c at) rest at

-- a directory is that of the user with this name
abbrev pub is_user_named : List ℕ → List ℕ → Bool
is_user_named name directory = is_user directory && equals directory name

-- the number of the user with this name
abbrev pub user_named : Catalogue → List ℕ → Option ℕ
user_named c name = position_from (is_user_named name) 0 c.directories

-- a user, or a refusal where there is none
abbrev pub user_or_refused : Option ℕ → Result Value Code
user_or_refused None = Err NoUser
user_or_refused (Some directory) = Ok (values.User directory)

-- what a run says as a user, whether a colon is after it: a device is none
unfoldable pub user_of : Catalogue → Bool → List ℕ → Result Value Code
user_of c has_colon run = refuse has_colon NoUser (user_or_refused (user_named c run))

-- a colon is after such a name
abbrev pub has_colon_after : List ℕ → Bool
has_colon_after rest = stands_at rest (prefix_len is_plain_path rest) 58

-- a user; the byte after the name decides
abbrev pub user : Catalogue → List ℕ → ℕ → Try
user c rest at = by_run is_plain_path (user_of c (has_colon_after rest)) rest at
