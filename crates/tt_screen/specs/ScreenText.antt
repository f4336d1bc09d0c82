-- A screen as a text.
use Rattle.std.specs.Prelude.{ℕ, ◌-◌, ◌==◌, Bool, List, ◌++◌, length, take}
use Rattle.std.specs.List.{flat_map, suffix_len}
use Rattle.cm_text.specs.ScreenBytes.{end_of_line}
use Rattle.tt_screen.specs.Grid.{blank_grid, feed}
use Rattle.tt_screen.specs.KeptRows.{kept_of}

abbrev pub is_space : ℕ → Bool
is_space byte = byte == 32

-- a row without the spaces at its end
abbrev pub row_text : List ℕ → List ℕ
row_text row = take (length row - suffix_len is_space row) row

unfoldable pub row_line : List ℕ → List ℕ
row_line row = row_text row ++ end_of_line

-- a line for each row
unfoldable pub rows_text : List (List ℕ) → List ℕ
rows_text rows = flat_map row_line rows

-- what is kept of a blank screen that is fed these bytes
abbrev pub screen_text : List ℕ → List ℕ
screen_text bytes = rows_text (kept_of (feed blank_grid bytes)).rows
