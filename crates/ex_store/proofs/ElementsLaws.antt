-- The elements at some places, one after the other.
use Rattle.std.proofs.Common.{◌≡◌, ℕ, ◌+◌, ◌<◌, ◌≤◌, suc, List, [], ◌∷◌, ◌++◌, length, get_or, drop, Option, Some, None, sym, ap, ◌∙◌, arith}
use Rattle.std.specs.List.{slice_get}
use Rattle.std.specs.Option.{option_to_list}
use Rattle.std.proofs.lemmas.List.{at_drop_more}
use Rattle.std.proofs.lemmas.Option.{slice_get-get_or}
use Rattle.ex_store.specs.Positions.{elements_at}

-- the next place of some places
pub elements_more : {X : Type 0} (xs : List X) (positions : List ℕ) (i at : ℕ) (x : X) → i < length positions → at ≡ get_or positions i 0 → at < length xs → elements_at xs (drop i positions) ≡ get_or xs at x ∷ elements_at xs (drop (i + 1) positions)
elements_more xs positions i at x lt place within =
    at_drop_more (elements_at xs) positions i 0 lt
    ∙ (ap (λ other. option_to_list (slice_get xs other) ++ elements_at xs (drop (i + 1) positions)) (sym place)
    ∙ ap (λ there. option_to_list there ++ elements_at xs (drop (i + 1) positions)) (slice_get-get_or xs at x within))

-- there are no more elements than places
pub length_elements : {X : Type 0} (xs : List X) (positions : List ℕ) → length (elements_at xs positions) ≤ length positions
length_elements xs [] = omega arith
length_elements {X = X} xs (at ∷ positions) = by (slice_get xs at) (length_elements xs positions)
  where
    by : (there : Option X) → length (elements_at xs positions) ≤ length positions
        → length (option_to_list there ++ elements_at xs positions) ≤ suc (length positions)
    by None rest = omega arith
    by (Some x) rest = omega arith
