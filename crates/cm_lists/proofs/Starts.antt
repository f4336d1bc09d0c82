-- What a text starts with, and as far as two texts are the same.
use Rattle.std.proofs.Common.{Bool, List, [], ap, arith, cond, false, length, nat_eq, refl, suc, sym, take, true, ℕ, ◌+◌, ◌∙◌, ◌∷◌, ◌≡◌, ◌≤◌}
use Rattle.std.specs.Io.{StartsWith}
use Rattle.std.specs.List.{common_prefix_len}
use Rattle.std.proofs.lemmas.Bool.Decides.{nat_tests}
use Rattle.std.proofs.lemmas.List.{length-take, length-take-le, take-take}

-- a text is no shorter than what it starts with
pub starts_within : (text front : List ℕ) → StartsWith text front → length front ≤ length text
starts_within text front starts = omega (arith, length-take (length front) text, ap length starts)

pub starts_trans : (text middle front : List ℕ) → StartsWith text middle → StartsWith middle front → StartsWith text front
starts_trans text middle front first second =
    sym (take-take (length front) (length middle) text (starts_within middle front second))
    ∙ ap (take (length front)) first ∙ second

-- a beginning of a text
pub starts_take : (size : ℕ) (text : List ℕ) → size ≤ length text → StartsWith text (take size text)
starts_take size text within = rw (length-take-le size text within) refl

-- two texts are the same as far as they share
pub take_common : (text other : List ℕ)
    → take (common_prefix_len nat_eq text other) text ≡ take (common_prefix_len nat_eq text other) other
take_common [] other = refl
take_common (byte ∷ text) [] = refl
take_common (byte ∷ text) (next ∷ other) =
    by (nat_eq byte next) (λ equal. grind (arith, nat_tests)) (take_common text other)
  where
    size : ℕ
    size = common_prefix_len nat_eq text other

    by : (test : Bool) → (test ≡ true → byte ≡ next) → take size text ≡ take size other
        → take (cond test (1 + size) 0) (byte ∷ text) ≡ take (cond test (1 + size) 0) (next ∷ other)
    by true equal more =
        let next_size : 1 + size ≡ suc size = omega arith in
        rw next_size (cc (equal refl, more))
    by false equal more = refl

-- a text that both start with is no longer than what they share
pub common_most : (text other front : List ℕ) → StartsWith text front → StartsWith other front
    → length front ≤ common_prefix_len nat_eq text other
common_most text other [] first second = omega arith
common_most [] other (byte ∷ front) first second = cc
common_most (a ∷ text) [] (byte ∷ front) first second = cc
common_most (a ∷ text) (b ∷ other) (byte ∷ front) first second =
    let same : a ≡ byte = cc in
    let also : b ≡ byte = cc in
    let more = common_most text other front (cc) (cc) in
    by (nat_eq a b) (grind (arith, nat_tests)) more
  where
    size : ℕ
    size = common_prefix_len nat_eq text other

    by : (test : Bool) → test ≡ true → length front ≤ size → suc (length front) ≤ cond test (1 + size) 0
    by true equal more = omega arith
    by false equal more = cc
