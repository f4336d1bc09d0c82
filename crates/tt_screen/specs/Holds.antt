-- A screen that holds a text at the start of its last row.
use Rattle.std.specs.Prelude.{◌≡◌, ℕ, zero, suc, List, [], ◌∷◌, length}
use Rattle.tt_screen.specs.declared.row.TheConstants.{WIDTH}
use Rattle.tt_screen.specs.Grid.{Grid}

-- so many cells, which begin with the text as far as it goes, and have spaces after it
abbrev pub cells_of : ℕ → List ℕ → List ℕ
cells_of zero text = []
cells_of (suc count) [] = 32 ∷ cells_of count []
cells_of (suc count) (byte ∷ text) = byte ∷ cells_of count text

-- the row of a text: its first 80 bytes, and spaces
unfoldable pub row_of : List ℕ → List ℕ
row_of text = cells_of WIDTH text

-- the last row is that of the text, and the next byte goes after it
pub record Holds (grid : Grid) (text : List ℕ) : Type 0 where
  pub last : grid.last ≡ row_of text
  pub column : grid.column ≡ length text
