-- A state that is filled part by part.
use Rattle.std.specs.Prelude.{List, [], ◌∷◌, ◌++◌, map}
use Rattle.ex_generations.specs.declared.file.Remark.TheVariants as remarks
use Rattle.ex_store.specs.declared.directory.Definition.{Definition}
use Rattle.ex_store.specs.declared.directory.Directory.{Directory}
use Rattle.ex_store.specs.declared.queue.QueueEntry.{QueueEntry}
use Rattle.ex_store.specs.declared.row.Row.{Row}
use Rattle.ex_store.specs.Rows.{with_remark}
use Rattle.ex_store.specs.State.{State, retention_of}

-- nothing; the empty name, which no directory has, is where none is connected yet
abbrev pub empty_state : State
empty_state = record { directories = []; connected = []; logical = []; rows = []; queue = [] }

-- the state with one part more, after those of its kind
abbrev pub and_directory : Directory → State → State
and_directory directory state = record state { directories = state.directories ++ directory ∷ [] }

abbrev pub and_logical : Definition → State → State
and_logical entry state = record state { logical = state.logical ++ entry ∷ [] }

abbrev pub and_row : Row → State → State
and_row row state = record state { rows = state.rows ++ row ∷ [] }

abbrev pub and_request : QueueEntry → State → State
and_request entry state = record state { queue = state.queue ++ entry ∷ [] }

-- the row keeps as many generations as its directory
abbrev pub kept_by : List Directory → Row → Row
kept_by directories row = with_remark (remarks.Keep (retention_of row.key.directory directories)) row

-- so does each row
abbrev pub kept_by_directories : State → State
kept_by_directories state = record state { rows = map (kept_by state.directories) state.rows }
