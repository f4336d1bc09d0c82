-- The files of a store: one flat list of rows, in ascending order of directory, name, type and generation.
use Rattle.std.specs.Prelude.{ℕ, ◌≡◌, ◌==◌, ◌&&◌, ◌||◌, nat_le, if◌then◌else◌, Bool, true, false, not, List, [], ◌∷◌, length, map, filter, find, sum_by, Option, None}
use Rattle.std.specs.List.{prefix_len}
use Rattle.std.specs.Ordering.{is_eq, is_le, is_lt, nat_cmp, on, then_cmp}
use Rattle.std.specs.declared.cmp.Ordering.{Ordering}
use Rattle.cm_files.specs.Catalogue.{by_bytes}
use Rattle.ex_generations.specs.declared.file.File.{File}
use Rattle.ex_generations.specs.declared.file.Remark.{Remark}
use Rattle.ex_generations.specs.declared.file.TheConstants.{FILE_LIMIT}
use Rattle.ex_generations.specs.Generations as generations
use Rattle.ex_generations.specs.Generations.{marked_as, pages, rewritten}
use Rattle.ex_generations.specs.Retention.{live}
use Rattle.ex_store.specs.declared.key.FullName.{FullName}
use Rattle.ex_store.specs.declared.key.Key.{Key}
use Rattle.ex_store.specs.declared.row.Row.{Row}

-- directories, names and types by their bytes
abbrev pub by_key : Key → Key → Ordering
by_key =
    then_cmp (on (λ key. key.directory) by_bytes)
    (then_cmp (on (λ key. key.name) by_bytes) (on (λ key. key.kind) by_bytes))

-- generations of one name and type by their numbers
abbrev pub by_full : FullName → FullName → Ordering
by_full = then_cmp (on (λ full. full.key) by_key) (on (λ full. full.generation) nat_cmp)

-- the full name of a row
abbrev pub full_of : Row → FullName
full_of row = record { key = row.key; generation = row.file.generation }

abbrev pub by_row : Row → Row → Ordering
by_row = on full_of by_full

-- a row is of this directory, name and type
abbrev pub is_of : Key → Row → Bool
is_of key row = is_eq (by_key row.key key)

-- the files of some rows
abbrev pub files : List Row → List File
files rows = map (λ row. row.file) rows

-- the generations of a name and type in a directory
abbrev pub files_of : Key → List Row → List File
files_of key rows = map (λ row. row.file) (filter (is_of key) rows)

-- a row has this full name
abbrev pub is_full : FullName → Row → Bool
is_full full row = is_eq (by_full (full_of row) full)

-- the row of a full name
abbrev pub row_at : FullName → List Row → Option Row
row_at full rows = find (is_full full) rows

-- the rows without the one of a full name
abbrev pub without : FullName → List Row → List Row
without full [] = []
without full (row ∷ more) = if is_full full row then more else row ∷ without full more

-- the row at its place: after those that are below it
abbrev pub inserted : Row → List Row → List Row
inserted row [] = row ∷ []
inserted row (other ∷ more) = if is_lt (by_row other row) then other ∷ inserted row more else row ∷ other ∷ more

-- the row, marked as deleted or not
abbrev pub with_mark : Bool → Row → Row
with_mark deleted row = record row { file = marked_as deleted row.file }

-- the row, of which one thing is changed that may change of a file that stays as it was written
abbrev pub with_remark : Remark → Row → Row
with_remark remark row = record row { file = generations.with_remark remark row.file }

-- a file under another full name, unmarked
abbrev pub with_name : FullName → File → Row
with_name target file =
    record { key = target.key; file = record file { generation = target.generation; deleted = false } }

-- each row of this directory, name and type is marked that has at least so many unmarked ones above it
abbrev pub kept_newest : ℕ → Key → List Row → List Row
kept_newest retention key [] = []
kept_newest retention key (row ∷ more) =
    (if is_of key row && nat_le retention (live (files_of key more)) then with_mark true row else row)
    ∷ kept_newest retention key more

-- the same, where all rows are of one directory, name and type
abbrev pub older_marked : ℕ → List Row → List Row
older_marked retention [] = []
older_marked retention (row ∷ more) =
    (if nat_le retention (live (files more)) then with_mark true row else row) ∷ older_marked retention more

-- so many unmarked generations are kept, and with 0 all are
abbrev pub retained : ℕ → Key → List Row → List Row
retained retention key rows = if retention == 0 then rows else kept_newest retention key rows

-- the row at its place, and then all unmarked ones of its directory, name and type but so many are marked
abbrev pub added : ℕ → Row → List Row → List Row
added retention row rows = retained retention row.key (inserted row rows)

-- the row of a full name is given a moment and bytes
abbrev pub filled : FullName → ℕ → List ℕ → List Row → List Row
filled full moment bytes [] = []
filled full moment bytes (row ∷ more) =
    if is_full full row then (record row { file = rewritten moment bytes row.file }) ∷ more
    else row ∷ filled full moment bytes more

-- the bytes of all rows together
abbrev pub total : List Row → ℕ
total rows = sum_by (λ row. length row.file.bytes) rows

-- the rows of a directory
abbrev pub is_in : List ℕ → Row → Bool
is_in directory row = is_eq (by_bytes row.key.directory directory)

abbrev pub rows_in : List ℕ → List Row → List Row
rows_in directory rows = filter (is_in directory) rows

-- the rows of one of two directories
abbrev pub is_in_either : List ℕ → List ℕ → Row → Bool
is_in_either first second row = is_in first row || is_in second row

abbrev pub rows_in_either : List ℕ → List ℕ → List Row → List Row
rows_in_either first second rows = filter (is_in_either first second) rows

-- the pages of a directory's files, those that are marked too
abbrev pub pages_in : List ℕ → List Row → ℕ
pages_in directory rows = pages (map (λ row. row.file) (rows_in directory rows))

-- how many rows are before those of a directory, and before those after it
abbrev pub first_in : List ℕ → List Row → ℕ
first_in directory rows = prefix_len (λ row. is_lt (by_bytes row.key.directory directory)) rows

abbrev pub end_in : List ℕ → List Row → ℕ
end_in directory rows = prefix_len (λ row. is_le (by_bytes row.key.directory directory)) rows

-- a row, as if nobody had read it
abbrev pub unread : Row → Row
unread row = record row { file = record row.file { read = None } }

-- rows that differ in their moments of reading alone
abbrev pub AreAlike : List Row → List Row → Type 0
AreAlike rows other = map unread rows ≡ map unread other

-- a row without its bytes, as if nobody had read it
abbrev pub blank : Row → Row
blank row = record row { file = generations.blank row.file }

-- a file has no more bytes than one may have
abbrev pub is_short : Row → Bool
is_short row = nat_le (length row.file.bytes) FILE_LIMIT

-- [expunge] the rows without the marked ones of a directory, and the pages that those have
abbrev pub expunged : List ℕ → List Row → List Row
expunged directory rows = filter (λ row. not (is_in directory row && row.file.deleted)) rows

abbrev pub pages_marked : List ℕ → List Row → ℕ
pages_marked directory rows =
    pages (map (λ row. row.file) (filter (λ row. is_in directory row && row.file.deleted) rows))
