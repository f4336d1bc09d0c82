-- A search by halving, and how often it asks its test.
use Rattle.std.proofs.Common.{◌≡◌, ℕ, suc, [], ◌∷◌, ◌+◌, ◌-◌, ◌*◌, ◌^◌, ◌<◌, ◌≤◌, Bool, true, false, List, length, get_or, arith, refl, ap, sym, ◌∙◌}
use Rattle.std.specs.Fn.{AlwaysReturns, Called, Mut}
use Rattle.std.specs.List.{AllWithin}
use Rattle.std.specs.List.Sorted.{IsPartitionedBy}
use Rattle.std.proofs.Math.Nat.{add-mul, le-mul_of_pos_right, mul-add, mul-le-mul_left, mul-le-mul_right, pow-suc}
use Rattle.std.proofs.Math.Pow.{pow_mono}
use Rattle.std.proofs.lemmas.List.{get_or_default}

-- what is sought is among these: those before them pass the test, and those after them do not
abbrev pub IsSought : {X : Type 0} → (X → Bool) → List X → ℕ → ℕ → Type 0
IsSought test xs start size = IsPartitionedBy test xs
    → AllWithin (λ x. test x ≡ true) xs 0 start × AllWithin (λ x. test x ≡ false) xs (start + size) (length xs)

module _ {X : Type 0} (test : X → Bool) (xs : List X) where
  test_at : (i : ℕ) (x d : X) → i < length xs → x ≡ get_or xs i x → test x ≡ test (get_or xs i d)
  test_at i x d within is = ap test (is ∙ get_or_default xs i x d within)

  -- of these the one in the middle passes, or it does not
  pub sought_above : (start size half : ℕ) (x : X) → start + size ≤ length xs → half < size
      → x ≡ get_or xs (start + half) x → test x ≡ true → IsSought test xs start size
      → IsSought test xs (start + (half + 1)) (size - (half + 1))
  sought_above start size half x within middle is passes sought parted = (
    λ k d low high. parted k (start + half) d (omega arith) (omega arith) (sym (test_at (start + half) x d (omega arith) is) ∙ passes),
    λ k d low high. (sought parted).1 k d (omega arith) high,
  )

  pub sought_below : (start size half : ℕ) (x : X) → start + size ≤ length xs → half < size
      → x ≡ get_or xs (start + half) x → test x ≡ false → IsSought test xs start size
      → IsSought test xs start half
  sought_below start size half x within middle is fails sought parted = (
    (sought parted).0,
    λ k d low high. by (start + half) k d low high (sym (test_at (start + half) x d (omega arith) is) ∙ fails) (test (get_or xs k d)) refl,
  )
    where
      by : (i k : ℕ) (d : X) → i ≤ k → k < length xs → test (get_or xs i d) ≡ false
          → (b : Bool) → test (get_or xs k d) ≡ b → test (get_or xs k d) ≡ false
      by i k d low high not true is = let passes = parted i k d low high is in cc
      by i k d low high not false is = is

-- a test that is asked once more answers by the same
pub asked_again : {F X R : Type 0} (g : Mut F X R) (P : X → R → Type 0) (f : F) (a : X) (r : R) (f' : F) → Called g f a r f'
    → AlwaysReturns g P f → P a r × AlwaysReturns g P f'
asked_again g P f a r f' call always =
    ((always.at (a ∷ []) r f' call).0, record { at = λ xs. (always.at (a ∷ xs) r f' call).1 })

-- asked once more, for at most half as many
power_next : (size more : ℕ) → more ≤ size + 1 → 2 ^ more ≤ 2 ^ size + 2 ^ size
power_next size more most =
    let least : 2 ^ more ≤ 2 ^ (suc size) = pow_mono (omega arith) in
    omega (arith, least, pow-suc 2 size)

pub fewer_left : (before now next count size less : ℕ) → before ≤ now → next ≤ now + 1 → 2 * less ≤ size
    → 2 ^ (now - before) * size ≤ count → 2 ^ (next - before) * less ≤ count
fewer_left before now next count size less from most half few =
    let power = 2 ^ (now - before) in
    let next_power = mul-le-mul_right less (power_next (now - before) (next - before) (omega arith)) in
    let halves : power * (less + less) ≤ power * size = mul-le-mul_left power (omega arith) in
    omega (arith, next_power, halves, add-mul power power less, mul-add power less less)

pub few_asked : (before now next count size : ℕ) → before ≤ now → next ≤ now + 1 → 0 < size
    → 2 ^ (now - before) * size ≤ count → 2 ^ (next - before) ≤ 2 * count + 1
few_asked before now next count size from most some few =
    let power = power_next (now - before) (next - before) (omega arith) in
    omega (arith, power, le-mul_of_pos_right {m = size} (2 ^ (now - before)) some)
