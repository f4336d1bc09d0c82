-- A plan that is ready to be done.
use Rattle.std.specs.Prelude.{ℕ, ◌≡◌, ◌+◌, ◌-◌, ◌<◌, ◌≤◌, ◌&&◌, nat_le, Bool, true, false, not, List, [], ◌∷◌, length, Option, Some, None, Result, Ok, ◌++◌}
use Rattle.std.specs.List.{count_by, fold, list_all}
use Rattle.std.specs.Option.{option_map_or}
use Rattle.std.specs.Ordering.{is_eq}
use Rattle.cm_fields.specs.declared.code.Code.{Code}
use Rattle.ex_generations.specs.declared.file.TheConstants.{FILE_LIMIT}
use Rattle.ex_generations.specs.Generations.{has}
use Rattle.ex_store.specs.declared.directory.Definition.{Definition}
use Rattle.ex_store.specs.declared.directory.Directory.{Directory}
use Rattle.ex_store.specs.declared.key.FullName.{FullName}
use Rattle.ex_store.specs.declared.key.Key.{Key}
use Rattle.ex_store.specs.declared.key.NamePair.{NamePair}
use Rattle.ex_store.specs.declared.limits.TheConstants.{MOMENT_LIMIT, ROW_LIMIT}
use Rattle.ex_store.specs.declared.queue.QueueEntry.{QueueEntry}
use Rattle.ex_store.specs.declared.ready.Reading.{Reading}
use Rattle.ex_store.specs.declared.ready.RowChange.{RowChange}
use Rattle.ex_store.specs.declared.ready.RowChange.TheVariants as changes
use Rattle.ex_store.specs.declared.row.Row.{Row}
use Rattle.ex_store.specs.Building.{with_directory}
use Rattle.ex_store.specs.Adding.{Outcome}
use Rattle.ex_store.specs.Defining.{with_definition}
use Rattle.ex_store.specs.Entries.{is_kept}
use Rattle.ex_store.specs.Families.{room_at}
use Rattle.ex_store.specs.Plan.{Planned}
use Rattle.ex_store.specs.Rows.{added, by_key, filled, files_of, row_at, with_name, without}
use Rattle.ex_store.specs.Selection.{touched}
use Rattle.ex_store.specs.State.{StoreWithRoom, State}
use Rattle.ex_store.specs.WellFormed.{AreRows, IsWellFormed, is_numbered}

-- a directory to be made or changed; a logical name to be defined; which files are read, and when; what is done with
-- the files, one after the other; what is put into the queue; and from which file to which one each goes
pub record Change : Type 0 where
  pub directory : Option Directory
  pub definition : Option Definition
  pub reading : Option Reading
  pub row_changes : List RowChange
  pub entries : List QueueEntry
  pub pairs : List NamePair

-- nothing is changed
abbrev pub no_change : Change
no_change =
    record { directory = None; definition = None; reading = None; row_changes = []; entries = []; pairs = [] }

-- a directory alone, a logical name alone, files alone, or the queue alone
abbrev pub of_directory : Directory → Change
of_directory made = record no_change { directory = Some made }

abbrev pub of_definition : Definition → Change
of_definition made = record no_change { definition = Some made }

abbrev pub of_files : Option Reading → List RowChange → List NamePair → Change
of_files reading row_changes pairs =
    record no_change { reading = reading; row_changes = row_changes; pairs = pairs }

abbrev pub of_entries : List QueueEntry → List NamePair → Change
of_entries entries pairs = record no_change { entries = entries; pairs = pairs }

-- the rows, where those that are read get the moment of it
abbrev pub rows_read : Option Reading → State → List Row
rows_read None state = state.rows
rows_read (Some reading) state = touched reading.moment reading.files state

-- the row that was taken out, added under another name
abbrev pub reinserted : FullName → List Row → Option Row → List Row
reinserted target rows None = rows
reinserted target rows (Some row) = added row.file.keep (with_name target row.file) rows

-- the row of a full name is taken out, where there is one, and added under another
abbrev pub moved : NamePair → List Row → List Row
moved pair rows = reinserted pair.target (without pair.source rows) (row_at pair.source rows)

-- the rows after a change; of a file that is added, as many generations are kept as it says
abbrev pub rows_after : List Row → RowChange → List Row
rows_after rows (changes.Add row) = added row.file.keep row rows
rows_after rows (changes.Move pair) = moved pair rows
rows_after rows (changes.Fill target moment bytes) = filled target moment bytes rows

abbrev pub rows_after_all : List Row → List RowChange → List Row
rows_after_all rows done = fold rows_after rows done

-- a change can be done with these rows: what it adds goes under a full name that none of them has
abbrev pub is_doable : List Row → RowChange → Bool
is_doable rows (changes.Add row) = not (has row.file.generation (files_of row.key rows))
is_doable rows (changes.Move pair) =
    not (has pair.target.generation (files_of pair.target.key (without pair.source rows)))
is_doable rows (changes.Fill target moment bytes) = true

-- so can each of some changes, one after the other
abbrev pub are_doable : List Row → List RowChange → Bool
are_doable rows [] = true
are_doable rows (change ∷ more) = is_doable rows change && are_doable (rows_after rows change) more

-- what the changes make of some rows
abbrev pub outcome_of : List Row → Change → Outcome
outcome_of rows change = record { rows = rows_after_all rows change.row_changes; pairs = change.pairs }

-- what is to be done with some rows is what a plan makes of them, and they stay those of a store
pub record IsMade (directories : List Directory) (rows : List Row) (plan : Result Outcome Code) (read : Option Reading)
    (change : Change) : Type 0 where
  pub files : change ≡ of_files read change.row_changes change.pairs
  pub outcome : plan ≡ Ok (outcome_of rows change)
  pub sound : AreRows directories (rows_after_all rows change.row_changes)
  pub doable : are_doable rows change.row_changes ≡ true

-- the directories with the one that is made
abbrev pub with_made : Option Directory → List Directory → List Directory
with_made None directories = directories
with_made (Some directory) directories = with_directory directory directories

-- the logical names with the one that is defined
abbrev pub with_defined : Option Definition → List Definition → List Definition
with_defined None logical = logical
with_defined (Some definition) logical = with_definition definition logical

-- the state when all of it is done, the reading first
abbrev pub applied : Change → State → State
applied change state =
    record state {
      directories = with_made change.directory state.directories;
      logical = with_defined change.definition state.logical;
      rows = rows_after_all (rows_read change.reading state) change.row_changes;
      queue = state.queue ++ change.entries;
    }

-- what the plan makes, done on a state
abbrev pub done_on : State → Change → Planned
done_on state change = record { state = applied change state; pairs = change.pairs }

-- what a change adds has a number and bytes that a file may have
abbrev pub is_lawful : RowChange → Bool
is_lawful (changes.Add row) = is_numbered row.file.generation && nat_le (length row.file.bytes) FILE_LIMIT
is_lawful (changes.Move pair) = is_numbered pair.target.generation
is_lawful (changes.Fill target moment bytes) = nat_le (length bytes) FILE_LIMIT

-- a moment of reading is one that may be
abbrev pub is_reading_within : Option Reading → Bool
is_reading_within None = true
is_reading_within (Some reading) = nat_le reading.moment MOMENT_LIMIT

-- what is ready: a logical name as it is kept, a moment of reading that may be, lawful changes, and no more pairs than
-- there may be files
pub record AreLawful (definition : Option Definition) (read : Option Reading) (row_changes : List RowChange)
    (pairs : List NamePair) : Type 0 where
  pub within : is_reading_within read ≡ true
  pub kept : option_map_or is_kept definition true ≡ true
  pub lawful : list_all is_lawful row_changes ≡ true
  pub few : length pairs ≤ ROW_LIMIT

-- the directory, name and type under which a change puts a file
abbrev pub key_put : RowChange → Option Key
key_put (changes.Add row) = Some row.key
key_put (changes.Move pair) = Some pair.target.key
key_put (changes.Fill target moment bytes) = None

abbrev pub puts_under : Key → RowChange → Bool
puts_under key change = option_map_or (λ it. is_eq (by_key it key)) (key_put change) false

-- how many files some changes put under a key
abbrev pub count_under : Key → List RowChange → ℕ
count_under key changes = count_by (puts_under key) changes

-- how many are made, of directories or of logical names
abbrev pub count_made : {X : Type 0} → Option X → ℕ
count_made None = 0
count_made (Some made) = 1

-- what is held when all of it is done: what is made takes its place, and else the room is as it was
abbrev pub held_after : Change → StoreWithRoom → StoreWithRoom
held_after change held =
    record held {
      state = applied change held.state;
      spare_directories = held.spare_directories - count_made change.directory;
      spare_logical = held.spare_logical - count_made change.definition;
    }

-- it can be done on what is held: it leads to a state that may be, no file is added under a name that another has, and
-- there is room for what is made
pub record IsFor (change : Change) (held : StoreWithRoom) : Type 0 where
  pub sound : IsWellFormed (applied change held.state)
  pub doable : are_doable (rows_read change.reading held.state) change.row_changes ≡ true
  pub directories : count_made change.directory ≤ held.spare_directories
  pub logical : count_made change.definition ≤ held.spare_logical
  pub names : (key : Key) → 0 < count_under key change.row_changes
      → length (files_of key held.state.rows) + count_under key change.row_changes ≤ room_at key held.family_rooms
  pub queue : length held.state.queue + length change.entries ≤ held.queue_room
