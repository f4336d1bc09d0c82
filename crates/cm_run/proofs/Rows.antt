-- The row of a display that a line is in, after its prompt.
-- The row of a line is a fold (row_behind, row_append). For rubouts row_plain says what is after the part that
-- stays.
use Rattle.std.proofs.Common.{◌≡◌, ℕ, ◌==◌, ◌||◌, Bool, true, false, List, [], ◌∷◌, ◌++◌, map, if◌then◌else◌, refl, sym, ◌∙◌, append_assoc, append-nil}
use Rattle.cm_text.specs.ScreenBytes.{screen_byte}
use Rattle.cm_text.specs.declared.text.TheConstants.{JOIN}
use Rattle.cm_state.specs.Echo.{has_join}
use Rattle.cm_run.specs.Shows.{row_after}

-- bytes that are added to a line are added to its row
pub row_append : (row line more : List ℕ) → row_after row (line ++ more) ≡ row_after (row_after row line) more
row_append row [] more = refl
row_append row (byte ∷ line) more = row_append (if byte == JOIN then [] else row ++ screen_byte byte ∷ []) line more

-- without a join byte they are after it
pub row_plain : (row line : List ℕ) → has_join line ≡ false → row_after row line ≡ row ++ map screen_byte line
row_plain row [] none = sym (append-nil row)
row_plain row (byte ∷ line) none = by (byte == JOIN) (λ row rest. row_plain row line rest) none
  where
    by : (joins : Bool) → ((row : List ℕ) → has_join line ≡ false → row_after row line ≡ row ++ map screen_byte line)
        → (joins || has_join line) ≡ false
        → row_after (if joins then [] else row ++ screen_byte byte ∷ []) line ≡ row ++ (screen_byte byte ∷ map screen_byte line)
    by true later none = cc
    by false later none =
        later (row ++ screen_byte byte ∷ []) none ∙ append_assoc row (screen_byte byte ∷ []) (map screen_byte line)

-- and after a join byte nothing is before them
pub row_joined : (row line rest : List ℕ) → has_join rest ≡ false → row_after row (line ++ JOIN ∷ rest) ≡ map screen_byte rest
row_joined row line rest none = row_append row line (JOIN ∷ rest) ∙ row_plain [] rest none
