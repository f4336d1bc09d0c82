-- The state of the file machine: five flat lists and values, and the catalogue that it is.
use Rattle.std.specs.Prelude.{ℕ, ◌==◌, Bool, not, List, [], ◌∷◌, codes, filter, map, find}
use Rattle.std.specs.List.{list_any, prefix_len}
use Rattle.std.specs.Option.{option_map_or}
use Rattle.std.specs.Str.{bytes_eq}
use Rattle.cm_text.specs.Case.{equals}
use Rattle.cm_files.specs.declared.row.FileRow.{FileRow}
use Rattle.cm_files.specs.declared.row.LogicalName.{LogicalName}
use Rattle.cm_files.specs.Catalogue.{Catalogue}
use Rattle.ex_store.specs.declared.directory.Definition.{Definition}
use Rattle.ex_store.specs.declared.directory.Directory.{Directory}
use Rattle.ex_store.specs.declared.key.Key.{Key}
use Rattle.ex_store.specs.declared.queue.QueueEntry.{QueueEntry}
use Rattle.ex_store.specs.declared.row.Row.{Row}
use Rattle.ex_store.specs.Rows.{first_in}

-- the directories; the name of the connected one; the logical names; the files; the print queue
pub record State : Type 0 where
  pub directories : List Directory
  pub connected : List ℕ
  pub logical : List Definition
  pub rows : List Row
  pub queue : List QueueEntry

-- for how many files of a directory, name and type there is room
pub record FamilyRoom : Type 0 where
  pub key : Key
  pub room : ℕ

-- files, and for how many of each name there is room
pub record FilesWithRoom : Type 0 where
  pub rows : List Row
  pub rooms : List FamilyRoom

-- the elements of a list, and for how many more there is room
pub record WithSpare (X : Type 0) : Type 0 where
  pub list : List X
  pub spare : ℕ

-- the state, for how many more directories and logical names there is room, and for how many files of each name and
-- entries of the queue
pub record StoreWithRoom : Type 0 where
  pub state : State
  pub spare_directories : ℕ
  pub spare_logical : ℕ
  pub family_rooms : List FamilyRoom
  pub queue_room : ℕ

-- a directory has this name
abbrev pub is_named : List ℕ → Directory → Bool
is_named name directory = bytes_eq directory.name name

-- there is a directory of this name
abbrev pub has_directory : List ℕ → List Directory → Bool
has_directory name directories = list_any (is_named name) directories

-- the number of a directory: how many are before it
abbrev pub number_of : List ℕ → List Directory → ℕ
number_of name directories = prefix_len (λ directory. not (is_named name directory)) directories

-- how many generations a directory keeps of each name and type; 0 where all are kept
abbrev pub retention_of : List ℕ → List Directory → ℕ
retention_of name directories = option_map_or (λ directory. directory.retention) (find (is_named name) directories) 0

-- a row as a catalogue has it
abbrev pub file_row : List Directory → Row → FileRow
file_row directories row =
    record {
      directory = number_of row.key.directory directories;
      name = row.key.name;
      kind = row.key.kind;
      generation = row.file.generation;
      deleted = row.file.deleted;
    }

-- the rows of the directory with a number
abbrev pub rows_numbered : ℕ → State → List Row
rows_numbered directory state = filter (λ row. number_of row.key.directory state.directories == directory) state.rows

-- how many rows are before those of each directory
abbrev pub firsts_in : List Directory → List Row → List ℕ
firsts_in directories rows = map (λ directory. first_in directory.name rows) directories

-- a logical name as a catalogue has it
abbrev pub logical_name : List Directory → Definition → LogicalName
logical_name directories entry =
    record { name = entry.name; directory = number_of entry.directory directories }

-- the catalogue: the state without bytes, moments, what directories and files keep, and queue
abbrev pub catalogue_of : State → Catalogue
catalogue_of state =
    record {
      directories = map (λ directory. directory.name) state.directories;
      connected = number_of state.connected state.directories;
      logical = map (logical_name state.directories) state.logical;
      rows = map (file_row state.directories) state.rows;
    }

-- the directory OPERATOR, which is connected and keeps one generation, and no file
abbrev pub first_state : State
first_state =
    record {
      directories = (record { name = codes "OPERATOR"; retention = 1 }) ∷ [];
      connected = codes "OPERATOR";
      logical = [];
      rows = [];
      queue = [];
    }

-- a logical name is among these; letters have no case
abbrev pub has_definition : List ℕ → List Definition → Bool
has_definition name logical = list_any (λ entry. equals entry.name name) logical

-- a logical name stands for a directory
abbrev pub defined : List ℕ → State → Bool
defined name state = has_definition name state.logical

-- the state without a logical name
abbrev pub undefined : List ℕ → State → State
undefined name state = record state { logical = filter (λ entry. not (equals entry.name name)) state.logical }
