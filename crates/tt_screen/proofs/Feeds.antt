-- [screen-row] Bytes that are fed in turn.
use Rattle.std.proofs.Common.{◌≡◌, ℕ, ◌+◌, ◌≤◌, ◌==◌, Bool, true, false, List, [], ◌∷◌, ◌++◌, length, if◌then◌else◌, refl, arith}
use Rattle.cm_io.specs.Display.{is_printed}
use Rattle.tt_screen.specs.Grid.{Grid, feed, feed_byte}

-- bytes are fed in two parts as in one
pub feed-append : (grid : Grid) (bytes more : List ℕ) → feed grid (bytes ++ more) ≡ feed (feed grid bytes) more
feed-append grid [] more = refl
feed-append grid (byte ∷ bytes) more = feed-append (feed_byte grid byte) bytes more

-- a byte takes the column one cell further at most
column_choice : (test : Bool) (first later : Grid) (most : ℕ) → first.column ≤ most → later.column ≤ most
    → (if test then first else later).column ≤ most
column_choice true first later most here there = here
column_choice false first later most here there = there

column-feed_byte : (grid : Grid) (byte : ℕ) → (feed_byte grid byte).column ≤ grid.column + 1
unfolding feed_byte
column-feed_byte grid byte =
    column_choice (is_printed byte) _ _ _ (omega arith)
    (column_choice (byte == 8) _ _ _ (omega arith)
    (column_choice (byte == 13) _ _ _ (omega arith)
    (column_choice (byte == 10) _ _ _ (omega arith) (omega arith))))

pub column-feed : (grid : Grid) (bytes : List ℕ) → (feed grid bytes).column ≤ grid.column + length bytes
column-feed grid [] = omega arith
column-feed grid (byte ∷ bytes) = omega (arith, column-feed_byte grid byte, column-feed (feed_byte grid byte) bytes)
