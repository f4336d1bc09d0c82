-- Which files a place selects (GTJFN).
use Rattle.std.specs.Prelude.{ℕ, ◌≡◌, ◌+◌, ◌<◌, ◌≤◌, Bool, true, ◌&&◌, if◌then◌else◌, List, [], ◌∷◌, drop, map, filter, codes, Option, None, Some}
use Rattle.std.specs.Option.{MatchOption}
use Rattle.cm_files.specs.Selection.{Wanted, is_selected}
use Rattle.ex_generations.specs.declared.file.Remark.{Remark}
use Rattle.ex_generations.specs.declared.file.Remark.TheVariants as remarks
use Rattle.ex_store.specs.declared.limits.TheConstants.{ROW_LIMIT}
use Rattle.ex_store.specs.declared.place.Place.{Place}
use Rattle.ex_store.specs.declared.row.Row.{Row}
use Rattle.ex_store.specs.Rows.{is_in, rows_in, with_remark}
use Rattle.ex_store.specs.State.{State, file_row, has_directory, number_of}

-- a name that is not given is any under the flag `default_all`, and else none
abbrev pub wanted_name : Place → Option (List ℕ) → Option (List ℕ)
wanted_name place None = if place.flags.default_all then Some (codes "*") else None
wanted_name place (Some name) = Some name

-- and a type is any, and else the empty one
abbrev pub wanted_kind : Place → Option (List ℕ) → List ℕ
wanted_kind place None = if place.flags.default_all then codes "*" else []
wanted_kind place (Some kind) = kind

-- what files of its directory a place looks for, with this mark
abbrev pub wanted_of : Bool → Place → Wanted
wanted_of deleted place =
    record {
      name = wanted_name place place.name;
      kind = wanted_kind place place.kind;
      generation = place.generation;
      all_generations = place.flags.all_generations;
      deleted = deleted;
    }

-- a row is one of those that a place selects, with this mark
unfoldable pub is_selected_by : Bool → Place → State → Row → Bool
is_selected_by deleted place state row =
    is_in place.directory row
    && is_selected (wanted_of deleted place) (map (file_row state.directories) (rows_in place.directory state.rows))
    (file_row state.directories row)

-- the rows that a place selects, with this mark
abbrev pub selected : Bool → Place → State → List Row
selected deleted place state = filter (is_selected_by deleted place state) state.rows

-- those of them from a number on, among the rows of its directory
abbrev pub selected_from : Bool → Place → State → ℕ → List Row
selected_from deleted place state from =
    filter (is_selected_by deleted place state) (drop from (rows_in place.directory state.rows))

-- the first of them, with its number, or there is none
abbrev pub IsNext : Bool → Place → State → ℕ → Option (ℕ × Row) → Type 0
IsNext deleted place state from found =
    let left = selected_from deleted place state in
    MatchOption found (left from ≡ []) (λ next. (left from ≡ next.1 ∷ left (next.0 + 1)) × (next.0 < ROW_LIMIT))

-- the rows, where one thing is changed of those that a place selects
abbrev pub rows_with_remark : Remark → Place → State → List Row
rows_with_remark remark place state =
    map (λ row. if is_selected_by place.flags.deleted place state row then with_remark remark row else row) state.rows

-- the rows, where those that a place selects are read at this moment
abbrev pub touched : ℕ → Place → State → List Row
touched moment place state = rows_with_remark (remarks.Read moment) place state

-- the number of the directory of this name; without one it has no rows
abbrev pub IsNumber : List ℕ → State → Option ℕ → Type 0
IsNumber name state found =
    MatchOption found (rows_in name state.rows ≡ [])
    (λ number. (has_directory name state.directories ≡ true) × (number ≡ number_of name state.directories))

-- a walk over the rows of the directory of this name, which is at one of them or after the last
pub record IsWalk (name : List ℕ) (state : State) (found : Option ℕ) (from : ℕ) : Type 0 where
  pub number : IsNumber name state found
  pub few : from ≤ ROW_LIMIT
