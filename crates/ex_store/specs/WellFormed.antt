-- What a state of the file machine has to be: names and numbers have their forms, each list ascends, each directory
-- meant is there, and no limit is passed.
use Rattle.std.specs.Prelude.{ℕ, ℤ, pos, ◌≡◌, ◌≤◌, Bool, true, ◌&&◌, nat_lt, nat_le, List, length, Option, None, Some, int_le}
use Rattle.std.specs.List.{list_all}
use Rattle.std.specs.Ordering.{on}
use Rattle.cm_text.specs.Bytes.{is_text}
use Rattle.cm_text.specs.declared.name.TheConstants.{NAME_LIMIT}
use Rattle.cm_lists.specs.Ascent.{ascends}
use Rattle.cm_files.specs.Catalogue.{by_bytes, is_directory_name, is_upper_name}
use Rattle.cm_files.specs.LogicalName.{is_logical_name}
use Rattle.ex_generations.specs.declared.file.File.{File}
use Rattle.ex_generations.specs.declared.file.Remark.{Remark}
use Rattle.ex_generations.specs.declared.file.Remark.TheVariants.{Deleted, Keep, Read}
use Rattle.ex_generations.specs.declared.file.TheConstants.{FILE_LIMIT, GENERATION_LIMIT}
use Rattle.ex_store.specs.declared.directory.Definition.{Definition}
use Rattle.ex_store.specs.declared.directory.Directory.{Directory}
use Rattle.ex_store.specs.declared.limits.TheConstants.{AFTER_LIMIT, COPIES_LIMIT, DIRECTORY_LIMIT, FORMS, LOGICAL_LIMIT, MOMENT_LIMIT, QUEUE_LIMIT, RETENTION_LIMIT, ROW_LIMIT, STORE_LIMIT}
use Rattle.ex_store.specs.declared.queue.QueueEntry.{QueueEntry}
use Rattle.ex_store.specs.declared.row.Row.{Row}
use Rattle.ex_store.specs.Rows.{by_row, total}
use Rattle.ex_store.specs.State.{State, firsts_in, has_directory}

-- a directory's name, and at most 63 generations that are kept
abbrev pub is_directory : Directory → Bool
is_directory directory = is_directory_name directory.name && nat_le directory.retention RETENTION_LIMIT

-- 1 to 39 name bytes with no small letter, and a type of at most 39
abbrev pub is_file_name : List ℕ → Bool
is_file_name name = nat_lt 0 (length name) && nat_le (length name) NAME_LIMIT && is_upper_name name

abbrev pub is_file_type : List ℕ → Bool
is_file_type kind = nat_le (length kind) NAME_LIMIT && is_upper_name kind

-- a generation that may be
abbrev pub is_numbered : ℕ → Bool
is_numbered generation = nat_lt 0 generation && nat_le generation GENERATION_LIMIT

-- a moment of reading that may be, or none
abbrev pub is_reading : Option ℕ → Bool
is_reading None = true
is_reading (Some moment) = nat_le moment MOMENT_LIMIT

-- a file keeps at most 63 generations, and no moment of it is past the last
abbrev pub is_stamped : File → Bool
is_stamped file = nat_le file.keep RETENTION_LIMIT && nat_le file.moment MOMENT_LIMIT && is_reading file.read

-- what may be changed of a file of a store
abbrev pub is_remark : Remark → Bool
is_remark (Deleted deleted) = true
is_remark (Keep keep) = nat_le keep RETENTION_LIMIT
is_remark (Read moment) = nat_le moment MOMENT_LIMIT

-- a file of one of these directories
abbrev pub is_row_among : List Directory → Row → Bool
is_row_among directories row =
    has_directory row.key.directory directories && is_file_name row.key.name && is_file_type row.key.kind
    && is_numbered row.file.generation && is_stamped row.file
    && nat_le (length row.file.bytes) FILE_LIMIT

-- a logical name that stands for one of these directories
abbrev pub is_definition_among : List Directory → Definition → Bool
is_definition_among directories entry =
    has_directory entry.directory directories && is_logical_name entry.name && is_upper_name entry.name

-- a day from 1-JAN-1970 to 31-DEC-2099, or none
abbrev pub is_day : Option ℤ → Bool
is_day None = true
is_day (Some day) = int_le (pos 0) day && int_le day AFTER_LIMIT

-- an entry of the queue for a file of one of these directories, which may be gone
abbrev pub is_entry_among : List Directory → QueueEntry → Bool
is_entry_among directories entry =
    has_directory entry.file.key.directory directories && is_file_name entry.file.key.name
    && is_file_type entry.file.key.kind && is_numbered entry.file.generation
    && nat_lt 0 entry.copies && nat_le entry.copies COPIES_LIMIT && nat_lt entry.form FORMS && is_day entry.after
    && is_file_name entry.job && nat_le (length entry.note) NAME_LIMIT && list_all is_text entry.note

-- the rows alone, of a state with these directories
pub record AreRows (directories : List Directory) (rows : List Row) : Type 0 where
  pub ascend : ascends by_row rows ≡ true
  pub within : list_all (is_row_among directories) rows ≡ true
  pub few : length rows ≤ ROW_LIMIT
  pub small : total rows ≤ STORE_LIMIT

-- all but that a directory is connected
pub record IsDraft (state : State) : Type 0 where
  pub directories_ascend : ascends (on (λ directory. directory.name) by_bytes) state.directories ≡ true
  pub directories_within : list_all is_directory state.directories ≡ true
  pub few_directories : length state.directories ≤ DIRECTORY_LIMIT
  pub logical_ascend : ascends (on (λ entry. entry.name) by_bytes) state.logical ≡ true
  pub logical_within : list_all (is_definition_among state.directories) state.logical ≡ true
  pub few_logical : length state.logical ≤ LOGICAL_LIMIT
  pub rows : AreRows state.directories state.rows
  pub queue_within : list_all (is_entry_among state.directories) state.queue ≡ true
  pub few_entries : length state.queue ≤ QUEUE_LIMIT

pub record IsWellFormed (state : State) : Type 0 where
  pub draft : IsDraft state
  pub connected_there : has_directory state.connected state.directories ≡ true

-- a well-formed state, with how many rows are before those of each of its directories
pub record IsStore (state : State) (firsts : List ℕ) : Type 0 where
  pub well : IsWellFormed state
  pub places : firsts ≡ firsts_in state.directories state.rows
