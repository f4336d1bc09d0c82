-- How a user, a directory or a file goes on that is begun (COMND's recognition, GTJFN).
use Rattle.std.specs.Prelude.{ℕ, ◌+◌, ◌==◌, ◌&&◌, not, Bool, if◌then◌else◌, List, [], ◌∷◌, ◌++◌, length, drop, decimal, Option, Some, None, Result, Ok, Err}
use Rattle.std.specs.List.{list_any}
use Rattle.cm_fields.specs.declared.code.Code.{Code}
use Rattle.cm_fields.specs.declared.code.Code.TheVariants.{WildHere}
use Rattle.cm_fields.specs.declared.value.Span.{Span}
use Rattle.cm_fields.specs.declared.value.Spec.{Spec}
use Rattle.cm_files.specs.declared.row.FileRow.{FileRow}
use Rattle.cm_files.specs.declared.spec.SpecFault.{SpecFault}
use Rattle.cm_files.specs.Catalogue.{Catalogue, rows_of}
use Rattle.cm_files.specs.Pattern.{is_wild}
use Rattle.cm_files.specs.Resolve.{by_device, by_directory, has_bad_wild, refuse, then_in}
use Rattle.cm_files.specs.Spec.{device_read, part, part_or_nothing, read_spec}
use Rattle.cm_recognise.specs.declared.file_outcome.Request.{Request}
use Rattle.cm_recognise.specs.declared.found.Found.{Found}
use Rattle.cm_recognise.specs.declared.found.Found.TheVariants.{Nobody, One, Several}
use Rattle.cm_recognise.specs.declared.insertion.Mode.{Mode}
use Rattle.cm_recognise.specs.declared.insertion.Mode.TheVariants as modes
use Rattle.cm_recognise.specs.declared.outcome.Outcome.{Outcome}
use Rattle.cm_recognise.specs.declared.outcome.Outcome.TheVariants.{Nothing, Part, Piece, Whole}
use Rattle.cm_recognise.specs.Candidates.{found_directories, found_kinds, found_names, found_users, highest, missing}

-- one goes on to its end and what closes it, several as far as they go on alike
abbrev pub completed : ℕ → List ℕ → List ℕ → Found → Outcome
completed next typed close Nobody = Nothing
completed next typed close (One text) = Whole (missing text typed ++ close) next
completed next typed close (Several front) = Part (missing front typed)

-- a user
unfoldable pub user_outcome : Catalogue → ℕ → List ℕ → Outcome
user_outcome c next atom = completed next atom [] (found_users c atom)

-- what is after an opening angle bracket that is not closed
abbrev pub unclosed : List ℕ → Option (List ℕ)
unclosed [] = None
unclosed (byte ∷ typed) = if byte == 60 && not (list_any (λ other. other == 62) typed) then Some typed else None

-- the same where a device may be before it
abbrev pub opened : List ℕ → Option (List ℕ)
opened atom = unclosed (drop (device_read atom).next atom)

-- the name of a directory, and the bracket that closes it
abbrev pub named_directory : Catalogue → ℕ → List ℕ → Outcome
named_directory c next typed = completed next typed (62 ∷ []) (found_directories c typed)

-- a directory whose name is begun; `plain` is the outcome of the block's own trial
abbrev pub directory_completion : Catalogue → ℕ → Outcome → Option (List ℕ) → Outcome
directory_completion c next plain None = plain
directory_completion c next plain (Some typed) = named_directory c next typed

-- a directory; of a new one nothing is known
unfoldable pub directory_outcome : Catalogue → Bool → ℕ → List ℕ → Outcome → Outcome
directory_outcome c new next atom plain = if new then plain else directory_completion c next plain (opened atom)

-- all generations of a file, where the block means all by none, or else this one
abbrev pub generation_outcome : Request → List ℕ → ℕ → Outcome
generation_outcome request gathered generation =
    Whole (gathered ++ (if request.flags.all_generations then 42 ∷ [] else decimal generation)) request.next

-- after the second point: the highest generation there is, or this outcome
abbrev pub generation_step : Request → List ℕ → Outcome → Option ℕ → Outcome
generation_step request gathered other None = other
generation_step request gathered other (Some generation) = generation_outcome request gathered generation

-- a type and the point after it: ESC goes on with the generation
abbrev pub after_kind : Mode → Request → List FileRow → List ℕ → List ℕ → List ℕ → Outcome
after_kind modes.Part request rows gathered name kind = Piece gathered
after_kind modes.Escape request rows gathered name kind =
    generation_step request gathered (Part gathered) (highest rows request.flags.deleted name kind)

-- after the first point: one type goes on to its point, several as far as they go on alike
abbrev pub kind_step : Request → List FileRow → List ℕ → List ℕ → List ℕ → Found → Outcome
kind_step request rows gathered name typed Nobody = Part gathered
kind_step request rows gathered name typed (One kind) =
    after_kind request.mode request rows (gathered ++ (missing kind typed ++ 46 ∷ [])) name kind
kind_step request rows gathered name typed (Several front) = Part (gathered ++ missing front typed)

-- a name and the point after it: ESC goes on with the type
abbrev pub after_name : Mode → Request → List FileRow → List ℕ → List ℕ → Outcome
after_name modes.Part request rows gathered name = Piece gathered
after_name modes.Escape request rows gathered name =
    kind_step request rows gathered name [] (found_kinds rows request.flags.deleted name [])

-- before the first point: one name goes on to its point, several as far as they go on alike
abbrev pub name_step : Request → List FileRow → List ℕ → Found → Outcome
name_step request rows typed Nobody = Nothing
name_step request rows typed (One name) = after_name request.mode request rows (missing name typed ++ 46 ∷ []) name
name_step request rows typed (Several front) = Part (missing front typed)

-- by the type that is typed: none, one with which the atom ends, one after which a point ends it, and one after which
-- a generation is typed
abbrev pub by_kind : Request → List FileRow → List ℕ → List ℕ → Outcome → Option Span → Outcome
by_kind request rows atom name plain None = name_step request rows name (found_names rows request.flags.deleted name)
by_kind request rows atom name plain (Some place) =
    let kind = part atom place in
    if place.end == length atom
    then kind_step request rows [] name kind (found_kinds rows request.flags.deleted name kind)
    else (if place.end + 1 == length atom
    then generation_step request [] plain (highest rows request.flags.deleted name kind) else plain)

-- the directory that is meant, or a refusal: nothing is asked of what is missing yet
abbrev pub meant : Catalogue → Request → List ℕ → Spec → Result ℕ Code
meant c request atom spec =
    refuse (has_bad_wild request.kind request.flags atom spec) WildHere
    (then_in (by_device c atom spec.device) (by_directory c atom spec.directory))

-- the files of this directory
abbrev pub completion_in_directory : Catalogue → Request → List ℕ → Outcome → Spec → Result ℕ Code → Outcome
completion_in_directory c request atom plain spec (Err code) = Nothing
completion_in_directory c request atom plain spec (Ok directory) =
    by_kind request (rows_of c directory) atom (part_or_nothing atom spec.name) plain spec.kind

-- a specification
abbrev pub by_spec : Catalogue → Request → List ℕ → Outcome → Result Spec SpecFault → Outcome
by_spec c request atom plain (Err fault) = Nothing
by_spec c request atom plain (Ok spec) = completion_in_directory c request atom plain spec (meant c request atom spec)

-- after which a file goes on
abbrev pub as_piece : Outcome → Outcome
as_piece Nothing = Nothing
as_piece (Part bytes) = Part bytes
as_piece (Piece bytes) = Piece bytes
as_piece (Whole bytes next) = Piece bytes

-- a directory whose name is begun, or else a specification
abbrev pub prefix_completion : Catalogue → Request → List ℕ → Outcome → Option (List ℕ) → Outcome
prefix_completion c request atom plain None = by_spec c request atom plain (read_spec atom)
prefix_completion c request atom plain (Some typed) = as_piece (named_directory c request.next typed)

-- a file that is there or may be there; one with a wildcard is no one file
unfoldable pub file_outcome : Catalogue → Request → List ℕ → Outcome → Outcome
file_outcome c request atom plain =
    if list_any is_wild atom then Nothing else prefix_completion c request atom plain (opened atom)
