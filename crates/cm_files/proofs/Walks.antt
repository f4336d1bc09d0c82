-- Walks over a list by position, an element at a time.
use Rattle.std.proofs.Common.{◌≡◌, ℕ, zero, suc, ◌+◌, ◌<◌, Bool, true, false, List, [], ◌∷◌, Option, Some, length, drop, refl, subst, arith, ◌∙◌, sym}
use Rattle.std.specs.List.{list_any, position_from}
use Rattle.cm_lists.proofs.Positions.{position_from_past}
use Rattle.cm_lists.proofs.Quantifiers.{any_past}
use Rattle.cm_files.specs.RowTrials.{passes_at}

place_here : {X : Type 0} (test : X → Bool) (at i : ℕ) (xs : List X) → passes_at test xs i ≡ true
    → position_from test at (drop i xs) ≡ Some at
place_here test at i [] passes = cc
place_here test at zero (x ∷ xs) passes = rw passes refl
place_here test at (suc i) (x ∷ xs) passes = place_here test at i xs passes

place_next : {X : Type 0} (test : X → Bool) (at i : ℕ) (xs : List X) → i < length xs → passes_at test xs i ≡ false
    → position_from test at (drop i xs) ≡ position_from test (at + 1) (drop (suc i) xs)
place_next test at i [] within passes = absurd (omega arith)
place_next test at zero (x ∷ xs) within passes = rw passes refl
place_next test at (suc i) (x ∷ xs) within passes = place_next test at i xs (omega arith) passes

-- a walk for the first element that passes: it is here, it is not here, and there is none
pub found_here : {X : Type 0} (test : X → Bool) (xs : List X) (i : ℕ) (first : Option ℕ)
    → position_from test i (drop i xs) ≡ first → passes_at test xs i ≡ true → Some i ≡ first
found_here test xs i first walk passes = sym (place_here test i i xs passes) ∙ walk

pub not_here : {X : Type 0} (test : X → Bool) (xs : List X) (i : ℕ) (first : Option ℕ)
    → position_from test i (drop i xs) ≡ first → i < length xs → passes_at test xs i ≡ false
    → position_from test (i + 1) (drop (i + 1) xs) ≡ first
not_here test xs i first walk within passes =
    let next : suc i ≡ i + 1 = omega arith in
    subst (λ (k : ℕ). position_from test (i + 1) (drop k xs) ≡ first) next
    (sym (place_next test i i xs within passes) ∙ walk)

any_at : {X : Type 0} (test : X → Bool) (i : ℕ) (xs : List X) → passes_at test xs i ≡ true → list_any test (drop i xs) ≡ true
any_at test i [] passes = cc
any_at test zero (x ∷ xs) passes = rw passes refl
any_at test (suc i) (x ∷ xs) passes = any_at test i xs passes

any_later : {X : Type 0} (test : X → Bool) (i : ℕ) (xs : List X) → i < length xs → passes_at test xs i ≡ false
    → list_any test (drop i xs) ≡ list_any test (drop (suc i) xs)
any_later test i [] within passes = absurd (omega arith)
any_later test zero (x ∷ xs) within passes = rw passes refl
any_later test (suc i) (x ∷ xs) within passes = any_later test i xs (omega arith) passes

-- the same, where it is only asked whether some element passes
pub any_here : {X : Type 0} (test : X → Bool) (xs : List X) (i : ℕ) (some : Bool)
    → list_any test (drop i xs) ≡ some → passes_at test xs i ≡ true → true ≡ some
any_here test xs i some walk passes = sym (any_at test i xs passes) ∙ walk

pub any_next : {X : Type 0} (test : X → Bool) (xs : List X) (i : ℕ) (some : Bool)
    → list_any test (drop i xs) ≡ some → i < length xs → passes_at test xs i ≡ false
    → list_any test (drop (i + 1) xs) ≡ some
any_next test xs i some walk within passes =
    let next : suc i ≡ i + 1 = omega arith in
    rw (← next) (sym (any_later test i xs within passes) ∙ walk)

-- the goals of a walk for the first element that passes, and of one that asks whether there is one
pub ruleset first_walk = (found_here, not_here, position_from_past)

pub ruleset some_walk = (any_here, any_next, any_past)
