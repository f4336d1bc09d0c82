-- What is last in a list.
-- "Above the last" is a pattern [.., last] (above_last).
use Rattle.std.proofs.Common.{◌≡◌, ℕ, zero, suc, ◌+◌, List, [], ◌∷◌, length, slice_get, Some, ap, arith}
use Rattle.std.specs.Ordering.{is_lt}
use Rattle.std.specs.declared.cmp.Ordering.{Ordering}
use Rattle.ex_image.specs.Reading.{stands_above}

-- an element is above a list where the last of it is below
pub above_last : {X : Type 0} (compare : X → X → Ordering) (xs : List X) (i : ℕ) (last x : X) → i + 1 ≡ length xs
    → slice_get xs i ≡ Some last → stands_above compare xs x ≡ is_lt (compare last x)
above_last compare [] i last x size is = absurd (omega arith)
above_last compare (y ∷ []) zero last x size is =
    let same : y ≡ last = cc in ap (λ z. is_lt (compare z x)) same
above_last compare (y ∷ []) (suc i) last x size is = absurd (omega arith)
above_last compare (y ∷ z ∷ more) zero last x size is = absurd (omega arith)
above_last compare (y ∷ z ∷ more) (suc i) last x size is =
    above_last compare (z ∷ more) i last x (omega arith) is
