-- A plain screen: rows of cells, of which the last is written on at a column.
use Rattle.std.specs.Prelude.{ℕ, ◌+◌, ◌-◌, ◌==◌, if◌then◌else◌, List, [], ◌∷◌, ◌++◌, replicate, slice_set}
use Rattle.cm_io.specs.Display.{is_printed}
use Rattle.tt_screen.specs.declared.row.TheConstants.{WIDTH}

-- the rows above, the last row, and the column at which the next byte goes into it
pub record Grid : Type 0 where
  pub above : List (List ℕ)
  pub last : List ℕ
  pub column : ℕ

-- all rows, from the top
abbrev pub rows_of : Grid → List (List ℕ)
rows_of grid = grid.above ++ grid.last ∷ []

-- a row of spaces
unfoldable pub blank_row : List ℕ
blank_row = replicate WIDTH 32

-- one blank row, at its start
abbrev pub blank_grid : Grid
blank_grid = record { above = []; last = blank_row; column = 0 }

-- a byte goes into the cell at the column, and the column grows; past the last cell the byte is lost
abbrev pub with_byte : Grid → ℕ → Grid
with_byte grid byte = record grid { last = slice_set grid.last grid.column byte; column = grid.column + 1 }

-- the last row goes on at another column
abbrev pub at_column : Grid → ℕ → Grid
at_column grid column = record grid { column = column }

-- a blank row comes below the last
abbrev pub with_row : Grid → Grid
with_row grid = record { above = rows_of grid; last = blank_row; column = 0 }

-- what a byte makes of a screen: 8 goes back over a cell, and not past the first; 13 goes back to the first;
-- 10 begins a row; any other byte that is not printed does nothing
unfoldable pub feed_byte : Grid → ℕ → Grid
feed_byte grid byte =
    if is_printed byte then with_byte grid byte
    else (if byte == 8 then at_column grid (grid.column - 1)
    else (if byte == 13 then at_column grid 0
    else (if byte == 10 then with_row grid
    else grid)))

-- [screen-row] the same of bytes in turn
abbrev pub feed : Grid → List ℕ → Grid
feed grid [] = grid
feed grid (byte ∷ bytes) = feed (feed_byte grid byte) bytes
