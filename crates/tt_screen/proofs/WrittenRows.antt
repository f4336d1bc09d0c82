-- Rows that are written one after another.
-- slice_set does nothing past the end, and cells_of takes what fits: no lemma has a case at column 80. Room that a push
-- needs is a part of the Model's invariant, also where the ArrayVec has it in its type.
use Rattle.std.proofs.Common.{◌≡◌, ℕ, ◌+◌, List, [], take, Some, slice_get, sym, subst}
use Rattle.std.proofs.lemmas.Option.{get_or_from_slice_get, slice_get_within}
use Rattle.cm_io.specs.declared.sink.Sink.{Ghosts}
use Rattle.cm_io.specs.declared.writer.Writer.{Writer}
use Rattle.cm_io.specs.Writer.{Writes}
use Rattle.cm_io.proofs.Texts.{writes_each, writes_none}
use Rattle.tt_screen.specs.ScreenText.{row_line, rows_text}

-- no row is written at first
pub no_rows : {T : Type 0} (s : Ghosts T) (a : Writer T) → Writes s a a (rows_text [])
unfolding rows_text
no_rows s a = writes_none s a

-- a turn writes the row at its number
pub row_more : {T : Type 0} (s : Ghosts T) (a b c : Writer T) (rows : List (List ℕ)) (number : ℕ) (row : List ℕ)
    → slice_get rows number ≡ Some row
    → Writes s b c (row_line row) → Writes s a b (rows_text (take number rows)) → Writes s a c (rows_text (take (number + 1) rows))
unfolding rows_text
row_more s a b c rows number row is late early =
    writes_each s a b c row_line rows number row (slice_get_within rows number row is)
    (subst (λ (row : List ℕ). Writes s b c (row_line row)) (sym (get_or_from_slice_get rows number row row is)) late) early
