-- A catalogue: directories, the connected one, logical names and files, each a flat list in ascending order.
use Rattle.std.specs.Prelude.{ℕ, ◌≡◌, ◌<◌, ◌==◌, Bool, true, not, ◌&&◌, nat_lt, nat_le, List, length, filter, find, Option}
use Rattle.std.specs.Char.{is_ascii_lowercase}
use Rattle.std.specs.Cmp.Lexicographic.{slice_cmp}
use Rattle.std.specs.List.{list_all, slice_split}
use Rattle.std.specs.Option.{option_map}
use Rattle.std.specs.Ordering.{nat_cmp, on, then_cmp}
use Rattle.std.specs.declared.cmp.Ordering.{Ordering}
use Rattle.cm_lists.specs.Ascent.{ascends}
use Rattle.cm_text.specs.declared.name.TheConstants.{NAME_LIMIT}
use Rattle.cm_text.specs.Bytes.{is_name}
use Rattle.cm_text.specs.Case.{equals}
use Rattle.cm_files.specs.declared.generation.TheConstants.{GENERATION_LIMIT}
use Rattle.cm_files.specs.declared.row.FileRow.{FileRow}
use Rattle.cm_files.specs.declared.row.LogicalName.{LogicalName}
use Rattle.cm_files.specs.declared.row.Row.{Row}

-- the names of directories, by number; the number of the connected one; what logical names stand for; the
-- files
pub record Catalogue : Type 0 where
  pub directories : List (List ℕ)
  pub connected : ℕ
  pub logical : List LogicalName
  pub rows : List FileRow

-- the rows of a directory
abbrev pub rows_of : Catalogue → ℕ → List FileRow
rows_of c directory = filter (λ row. row.directory == directory) c.rows

-- the directory that a logical name stands for
abbrev pub logical_of : Catalogue → List ℕ → Option ℕ
logical_of c name = option_map (λ entry. entry.directory) (find (λ entry. equals entry.name name) c.logical)

-- a row as a catalogue has it, of this directory
abbrev pub row_of : ℕ → Row → FileRow
row_of directory row =
    record {
      directory = directory;
      name = row.name.now;
      kind = row.kind.now;
      generation = row.generation;
      deleted = row.deleted;
    }

-- names by their bytes, a beginning before what is longer
abbrev pub by_bytes : List ℕ → List ℕ → Ordering
by_bytes = slice_cmp nat_cmp

-- files by directory, name, type and generation
abbrev pub by_file : FileRow → FileRow → Ordering
by_file =
    then_cmp (on (λ row. row.directory) nat_cmp) (then_cmp (on (λ row. row.name) by_bytes)
    (then_cmp (on (λ row. row.kind) by_bytes) (on (λ row. row.generation) nat_cmp)))

-- name bytes with no small letter
abbrev pub is_upper_name : List ℕ → Bool
is_upper_name = list_all (λ byte. is_name byte && not (is_ascii_lowercase byte))

-- at most 39 bytes: parts that are not empty, with single points between
abbrev pub is_directory_name : List ℕ → Bool
is_directory_name name =
    nat_le (length name) NAME_LIMIT
    && list_all (λ part. nat_lt 0 (length part) && is_upper_name part) (slice_split (λ byte. byte == 46) name)

-- a file of one of so many directories: a name of 1 to 39 bytes, a type of at most 39, a generation that may be
abbrev pub is_row : ℕ → FileRow → Bool
is_row directories row =
    nat_lt row.directory directories && nat_lt 0 (length row.name) && nat_le (length row.name) NAME_LIMIT
    && is_upper_name row.name && nat_le (length row.kind) NAME_LIMIT && is_upper_name row.kind
    && nat_lt 0 row.generation && nat_le row.generation GENERATION_LIMIT

-- a logical name of at most 39 bytes that stands for one of so many directories
abbrev pub is_logical : ℕ → LogicalName → Bool
is_logical directories entry = nat_lt entry.directory directories && nat_le (length entry.name) NAME_LIMIT

-- directories and rows have their forms and ascend, and each directory meant is there
pub record IsCatalogue (c : Catalogue) : Type 0 where
  pub directories_ascend : ascends by_bytes c.directories ≡ true
  pub directory_names : list_all is_directory_name c.directories ≡ true
  pub connected_within : c.connected < length c.directories
  pub logical_within : list_all (is_logical (length c.directories)) c.logical ≡ true
  pub rows_ascend : ascends by_file c.rows ≡ true
  pub rows_within : list_all (is_row (length c.directories)) c.rows ≡ true
