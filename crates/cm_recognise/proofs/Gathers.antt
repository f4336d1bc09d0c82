-- A walk over a list that gathers what some of its elements give.
use Rattle.std.proofs.Common.{◌≡◌, ℕ, zero, suc, ◌+◌, ◌<◌, ◌≤◌, List, [], ◌∷◌, Option, Some, None, length, drop, slice_get, refl, ap, arith}
use Rattle.std.specs.List.{cons_option, filter_map}
use Rattle.std.specs.Option.{option_and_then}
use Rattle.std.proofs.lemmas.List.{drop_all}
use Rattle.cm_recognise.specs.Candidates.{gather, with_some}

-- what the first element gives comes before what the others give
gather_first : (S X Y : Type 0) (step : S → Y → S) (f : X → Option Y) (x : X) (xs : List X) (so_far : S)
    → gather step (with_some step so_far (f x)) (filter_map f xs) ≡ gather step so_far (filter_map f (x ∷ xs))
gather_first S X Y step f x xs so_far = by (f x)
  where
    by : (given : Option Y) → gather step (with_some step so_far given) (filter_map f xs) ≡ gather step so_far (cons_option given (filter_map f xs))
    by None = refl
    by (Some y) = refl

gather_at : {S X Y : Type 0} (step : S → Y → S) (f : X → Option Y) (xs : List X) (i : ℕ) (so_far : S) → i < length xs
    → gather step (with_some step so_far (option_and_then f (slice_get xs i))) (filter_map f (drop (suc i) xs))
    ≡ gather step so_far (filter_map f (drop i xs))
gather_at step f [] i so_far within = absurd (omega arith)
gather_at step f (x ∷ xs) zero so_far within = gather_first _ _ _ step f x xs so_far
gather_at step f (x ∷ xs) (suc i) so_far within = gather_at step f xs i so_far (omega arith)

-- one element further the rest gives what it gave
pub gather_next : {S X Y : Type 0} (step : S → Y → S) (f : X → Option Y) (xs : List X) (i : ℕ) (so_far : S) → i < length xs
    → gather step (with_some step so_far (option_and_then f (slice_get xs i))) (filter_map f (drop (i + 1) xs))
    ≡ gather step so_far (filter_map f (drop i xs))
gather_next step f xs i so_far within =
    let next : suc i ≡ i + 1 = omega arith in
    rw (← next) (gather_at step f xs i so_far within)

-- after the last element nothing more comes
pub gather_past : {S X Y : Type 0} (step : S → Y → S) (f : X → Option Y) (xs : List X) (i : ℕ) (so_far : S) → length xs ≤ i
    → gather step so_far (filter_map f (drop i xs)) ≡ so_far
gather_past step f xs i so_far past = ap (λ rest. gather step so_far (filter_map f rest)) (drop_all i xs past)
