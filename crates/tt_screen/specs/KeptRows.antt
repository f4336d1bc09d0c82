-- What is kept of a screen.
use Rattle.std.specs.Prelude.{ℕ, ◌-◌, List, length, drop}
use Rattle.tt_screen.specs.declared.screen.TheConstants.{KEPT_ROWS}
use Rattle.tt_screen.specs.Grid.{Grid, rows_of}

-- some rows, and the column in the last of them
pub record Kept : Type 0 where
  pub rows : List (List ℕ)
  pub column : ℕ

-- the last of the rows, as many as that, or all where there are fewer
abbrev pub last_rows : ℕ → List (List ℕ) → List (List ℕ)
last_rows count rows = drop (length rows - count) rows

abbrev pub kept_of : Grid → Kept
kept_of grid = record { rows = last_rows KEPT_ROWS (rows_of grid); column = grid.column }
