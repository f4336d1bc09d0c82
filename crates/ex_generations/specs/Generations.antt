-- The generations of one file name and type: a flat list of files, in ascending order.
use Rattle.std.specs.Prelude.{ℕ, ◌+◌, ◌/◌, ◌%◌, ◌<◌, ◌≤◌, ◌==◌, min, max, Bool, not, if◌then◌else◌, nat_lt, List, [], ◌∷◌, ◌++◌, length, map, filter, sum_by, Option, Some, None, unwrap_or}
use Rattle.std.specs.List.{list_any}
use Rattle.std.specs.Option.{option_map_or}
use Rattle.ex_generations.specs.declared.file.File.{File}
use Rattle.ex_generations.specs.declared.file.Remark.{Remark}
use Rattle.ex_generations.specs.declared.file.Remark.TheVariants as remarks
use Rattle.ex_generations.specs.declared.file.TheConstants.{FILE_LIMIT, GENERATION_LIMIT, PAGE_BYTES}

-- the files, and for how many there is room
pub record Kept : Type 0 where
  pub files : List File
  pub room : ℕ

-- each generation is above the one before, the first above this number, and none is above 131071; each file has
-- at most 65,536 bytes
abbrev pub IsAscending : ℕ → List File → Type 0
IsAscending low [] = Unit
IsAscending low (file ∷ more) =
    (low < file.generation) × (file.generation ≤ GENERATION_LIMIT) × (length file.bytes ≤ FILE_LIMIT)
    × IsAscending file.generation more

-- whether a file is of this generation
abbrev pub is_generation : ℕ → File → Bool
is_generation generation file = file.generation == generation

-- whether there is a file of this generation
abbrev pub has : ℕ → List File → Bool
has generation files = list_any (is_generation generation) files

-- the files that are not marked as deleted
abbrev pub unmarked : List File → List File
unmarked files = filter (λ file. not file.deleted) files

-- the files that are marked as deleted
abbrev pub marked : List File → List File
marked files = filter (λ file. file.deleted) files

-- the files with this mark
abbrev pub with_mark : Bool → List File → List File
with_mark deleted files = if deleted then marked files else unmarked files

-- the highest generation of some files
abbrev pub highest : List File → Option ℕ
highest [] = None
highest (file ∷ more) = Some (option_map_or (max file.generation) (highest more) file.generation)

-- the lowest generation of some files
abbrev pub lowest : List File → Option ℕ
lowest [] = None
lowest (file ∷ more) = Some (option_map_or (min file.generation) (lowest more) file.generation)

-- [next-generation] one more than the highest generation, deleted ones included, and 1 with none
abbrev pub next_generation : List File → ℕ
next_generation files = unwrap_or (highest files) 0 + 1

-- the file among the others, below those of a higher generation
abbrev pub inserted : File → List File → List File
inserted file files =
    filter (λ other. nat_lt other.generation file.generation) files
    ++ file ∷ filter (λ other. nat_lt file.generation other.generation) files

-- all files but that of this generation
abbrev pub without : ℕ → List File → List File
without generation files = filter (λ file. not (is_generation generation file)) files

-- the file of this generation is changed, and all others stay
abbrev pub changed : ℕ → (File → File) → List File → List File
changed generation change files = map (λ file. if is_generation generation file then change file else file) files

-- the file with this mark
abbrev pub marked_as : Bool → File → File
marked_as deleted file = record file { deleted = deleted }

-- the file that keeps so many
abbrev pub keeping : ℕ → File → File
keeping keep file = record file { keep = keep }

-- the file, last read at this moment
abbrev pub touched : ℕ → File → File
touched moment file = record file { read = Some moment }

-- the file with this remark
abbrev pub with_remark : Remark → File → File
with_remark (remarks.Deleted deleted) file = marked_as deleted file
with_remark (remarks.Keep keep) file = keeping keep file
with_remark (remarks.Read moment) file = touched moment file

-- the file without its bytes, and never read
abbrev pub blank : File → File
blank file = record file { read = None; bytes = [] }

-- the file with this moment and these bytes
abbrev pub rewritten : ℕ → List ℕ → File → File
rewritten moment bytes file = record file { moment = moment; bytes = bytes }

-- a page for each whole 2,560 bytes, and one for what is left
abbrev pub page_count : ℕ → ℕ
page_count bytes = bytes / PAGE_BYTES + min 1 (bytes % PAGE_BYTES)

-- the pages of all files
abbrev pub pages : List File → ℕ
pages files = sum_by (λ file. page_count (length file.bytes)) files
