-- How many bytes a pattern and a name take to compare: at most as many as the product of their lengths, each
-- with one more.
use Rattle.std.proofs.Common.{◌≡◌, ℕ, ◌+◌, ◌*◌, ◌<◌, ◌≤◌, List, length, take, drop, arith}
use Rattle.std.proofs.lemmas.List.{length-drop, length-take-le}
use Rattle.std.proofs.Math.Nat.{add-mul, mul-add, mul-le-mul_left, mul-le-mul_right, mul_comm}

-- one more place is tried
pub tried_more : (old now looked place cost : ℕ) → looked ≤ old + place * cost → now ≤ looked + cost
    → now ≤ old + (place + 1) * cost
tried_more old now looked place cost so_far more = let whole = add-mul place 1 cost in omega (arith, whole)

-- a part found after so many places leaves less of both
pub spend : (a b k s p n : ℕ) → 1 ≤ b → p ≡ a + (s + 1) → n ≡ b + (k + s) → (k + 1) * (s + 1) + a * b ≤ p * n
spend a b k s p n some p_is n_is =
    let whole = add-mul a (s + 1) (b + (k + s)) in
    let first = mul-add a b (k + s) in
    let more : (k + 1) * (s + 1) ≤ (b + (k + s)) * (s + 1) = mul-le-mul_right (s + 1) (omega arith) in
    let turn = mul_comm (b + (k + s)) (s + 1) in
    let sum : (k + 1) * (s + 1) + a * b ≤ (a + (s + 1)) * (b + (k + s)) = omega (arith, whole, first, more, turn) in
    rw (p_is, n_is) sum

-- the goals of the walk from star to star: a part is not found, and it is the last
pub spend_none : (parts rest : List ℕ) (size looked now budget : ℕ) → size < length parts
    → looked + (length parts + 1) * (length rest + 1) ≤ budget
    → now ≤ looked + (length rest + 1) * (length (take size parts) + 1) → now ≤ budget
spend_none parts rest size looked now budget within so_far more =
    let taken = length-take-le size parts (omega arith) in
    let most : (length rest + 1) * (length (take size parts) + 1) ≤ (length rest + 1) * (length parts + 1) =
    mul-le-mul_left (length rest + 1) (omega (arith, taken)) in
    let turn = mul_comm (length rest + 1) (length parts + 1) in
    omega (arith, most, turn)

once : (p n : ℕ) → p ≤ p * (n + 1)
once p n = let whole = mul-add p n 1 in omega (arith, whole)

pub spend_last : (parts rest : List ℕ) (looked now budget : ℕ) → looked + (length parts + 1) * (length rest + 1) ≤ budget
    → now ≤ looked + (length parts + 1) → now ≤ budget
spend_last parts rest looked now budget so_far more = let most = once (length parts + 1) (length rest) in omega (arith, most)

-- the goals of the first part: it is the last too, and more is after it
pub spend_first : (parts rest : List ℕ) (size old now : ℕ) → size ≤ length parts → now ≤ old + (length (take size parts) + 1)
    → now ≤ old + (length parts + 1) * (length rest + 1)
spend_first parts rest size old now within more =
    let taken = length-take-le size parts within in
    let most = once (length parts + 1) (length rest) in
    omega (arith, taken, most)

pub spend_after : (parts rest : List ℕ) (size old looked now : ℕ) → size < length parts → length (take size parts) ≤ length rest
    → looked ≤ old + (length (take size parts) + 1)
    → now ≤ looked + (length (drop (size + 1) parts) + 1) * (length (drop size rest) + 1)
    → now ≤ old + (length parts + 1) * (length rest + 1)
spend_after parts rest size old looked now within fits first more =
    let taken = length-take-le size parts (omega arith) in
    let left = length-drop (size + 1) parts in
    let after = length-drop size rest in
    let spent = spend (length (drop (size + 1) parts) + 1) (length (drop size rest) + 1) 0 size (length parts + 1) (length rest + 1)
    (omega arith) (omega (arith, left)) (omega (arith, after, taken)) in
    omega (arith, spent, taken)

pub ruleset spent_walk = (spend_none, spend_last)

pub ruleset spent_first = (spend_first, spend_after)
