-- Bytes that end a line.
use Rattle.std.proofs.Common.{ℕ, List, [], ◌∷◌, ◌++◌, inl, inr, refl, ap, sym, subst, ◌∙◌, append_assoc, append-nil}
use Rattle.std.specs.List.{flat_map}
use Rattle.cm_text.specs.ScreenBytes.{end_of_line}
use Rattle.cm_io.specs.Pieces.{shown_line, shown_lines}
use Rattle.cm_run.specs.Semantics.{Effect}
use Rattle.cm_run.specs.Obey.{replies}
use Rattle.cm_run.specs.Shows.{EndsLine, IsEnded}

-- the end of a line
pub eol_ends : IsEnded end_of_line
unfolding end_of_line
eol_ends = record { front = 13 ∷ []; ends = refl }

-- what ends a line, after other bytes
pub ended_after : (first more : List ℕ) → IsEnded more → IsEnded (first ++ more)
ended_after first more ended = record {
  front = first ++ ended.front;
  ends = append_assoc first ended.front (10 ∷ []) ∙ ap (λ bytes. first ++ bytes) ended.ends;
}

-- and with bytes after it that end a line, or none
pub ended_then : (first more : List ℕ) → IsEnded first → EndsLine more → IsEnded (first ++ more)
ended_then first more ended (inl none) =
    subst (λ bytes. IsEnded (first ++ bytes)) (sym none) (subst IsEnded (sym (append-nil first)) ended)
ended_then first more ended (inr later) = ended_after first more later

pub ends_both : (first more : List ℕ) → EndsLine first → EndsLine more → EndsLine (first ++ more)
ends_both first more (inl none) ends = subst (λ bytes. EndsLine (bytes ++ more)) (sym none) ends
ends_both first more (inr ended) ends = inr (ended_then first more ended ends)

pub ends_each : {X : Type 0} (f : X → List ℕ) → ((x : X) → EndsLine (f x)) → (xs : List X) → EndsLine (flat_map f xs)
ends_each f ends [] = inl refl
ends_each f ends (x ∷ xs) = ends_both (f x) (flat_map f xs) (ends x) (ends_each f ends xs)

-- whole lines
pub lines_end : (lines : List (List ℕ)) → EndsLine (shown_lines lines)
unfolding shown_lines
lines_end lines = ends_each shown_line (λ line. inr (ended_after line end_of_line eol_ends)) lines

-- one act
pub ends_effect : {S : Type 0} (effect : Effect S) → EndsLine effect.reply → EndsLine (replies (effect ∷ []))
ends_effect effect ends = subst EndsLine (sym (append-nil effect.reply)) ends
