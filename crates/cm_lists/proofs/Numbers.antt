-- Numbers: whether two are the same, their order, and steps by one.
use Rattle.std.proofs.Common.{ap, arith, false, inl, inr, max, min, nat_lt, refl, suc, true, ℕ, ◌+◌, ◌<◌, ◌==◌, ◌||◌, ◌∙◌, ◌≡◌, ◌≤◌, ◌⊎◌}
use Rattle.std.specs.Ordering.{is_eq, is_lt, nat_cmp}
use Rattle.std.specs.declared.cmp.Ordering.TheVariants.{Equal, Greater, Less}
use Rattle.std.proofs.lemmas.Bool.{cases_lt, cases_order, lt-ltb, ne_eqb}
use Rattle.std.proofs.lemmas.Bool.Decides.{nat_tests}
use Rattle.std.proofs.lemmas.Cmp.{nat_cmp_total}
use Rattle.cm_lists.proofs.Orders.{equal_from_reverse}

pub zero_is_no_suc : (n : ℕ) → (0 == suc n) ≡ false
zero_is_no_suc n = ne_eqb 0 (suc n) (λ equal. absurd (omega arith))

pub suc_is_not_zero : (n : ℕ) → (suc n == 0) ≡ false
suc_is_not_zero n = grind (arith, nat_tests)

pub eq-suc : (n m : ℕ) → (n == m) ≡ (suc n == suc m)
eq-suc n m = grind (arith, nat_tests)

pub suc_add : (n m : ℕ) → suc (n + m) ≡ suc n + m
suc_add n m = omega arith

pub zero_add : (n : ℕ) → n ≡ 0 + n
zero_add n = omega arith

pub one_add : (n : ℕ) → 1 + n ≡ suc n
one_add n = omega arith

pub add_one : (n : ℕ) → n + 1 ≡ suc n
add_one n = omega arith

pub lt_is_not_eq : (a b : ℕ) → a < b → (a == b) ≡ false
lt_is_not_eq a b less = grind (arith, nat_tests)

pub eq_itself : (n : ℕ) → (n == n) ≡ true
eq_itself n = grind (arith, nat_tests)

pub is_eq-nat_cmp : (a b : ℕ) → is_eq (nat_cmp a b) ≡ (a == b)
is_eq-nat_cmp a b = grind (arith, nat_tests)

pub eq-nat_cmp : (m n : ℕ) → (m == n) ≡ is_eq (nat_cmp m n)
eq-nat_cmp m n = grind (arith, nat_tests)

pub is_lt-nat_cmp : (a b : ℕ) → is_lt (nat_cmp a b) ≡ nat_lt a b
is_lt-nat_cmp a b = grind (arith, nat_tests)

pub cases_ne : (a b : ℕ) → (a ≡ b → ⊥) → (a < b) ⊎ (b < a)
cases_ne a b differ = go (cases_order a b) where
  go : (a ≡ b) ⊎ ((a < b) ⊎ (b < a)) → (a < b) ⊎ (b < a)
  go (inl same) = absurd (differ same)
  go (inr order) = order

pub one_or_two : (size : ℕ) → 0 < size → size ≤ 2 → (size == 1 || size == 2) ≡ true
one_or_two size some most = grind (arith, nat_tests)

-- the greater of two numbers is one of them
pub cases_max : (a b : ℕ) → (max a b ≡ a) ⊎ (max a b ≡ b)
cases_max a b = by (cases_lt a b)
  where
    by : (a < b) ⊎ (b ≤ a) → (max a b ≡ a) ⊎ (max a b ≡ b)
    by (inl less) = inr (omega arith)
    by (inr more) = inl (omega arith)

-- a number that counts on in two steps counts as far as in one
pub max_min_add : (n a b m : ℕ) → max n (min (n + (a + b)) m) ≡ max (max n (min (n + a) m))
    (min (max n (min (n + a) m) + b) m)
max_min_add n a b m = omega arith

pub le_add_more : (limit before gets turn : ℕ) → gets ≤ before + turn → turn ≤ limit → gets ≤ before + limit
le_add_more limit before gets turn few most = omega (arith, few, most)

-- the order of numbers, one above and at zero
pub nat_cmp-one_add : (m n : ℕ) → nat_cmp (1 + m) (1 + n) ≡ nat_cmp m n
nat_cmp-one_add m n = grind (arith, nat_tests)

pub nat_cmp_one_add_zero : (n : ℕ) → nat_cmp (1 + n) 0 ≡ Greater
nat_cmp_one_add_zero n = grind (arith, nat_tests)

pub nat_cmp_zero_one_add : (n : ℕ) → nat_cmp 0 (1 + n) ≡ Less
nat_cmp_zero_one_add n = grind (arith, nat_tests)

pub nat_cmp_suc : (n : ℕ) → nat_cmp n (suc n) ≡ Less
nat_cmp_suc n = rw (lt-ltb n (suc n) (omega arith)) refl

pub nat_cmp_itself : (n : ℕ) → nat_cmp n n ≡ Equal
nat_cmp_itself n = equal_from_reverse (nat_cmp n n) (nat_cmp_total.antisymm n n)

pub nat_cmp_less : (a b : ℕ) → nat_cmp a b ≡ Less → a < b
nat_cmp_less a b is = by (cases_order a b)
  where
    by : (a ≡ b) ⊎ ((a < b) ⊎ (b < a)) → a < b
    by (inl same) =
        let equal : nat_cmp a b ≡ Equal = ap (λ n. nat_cmp n b) same ∙ nat_cmp_itself b in absurd (cc)
    by (inr (inl less)) = less
    by (inr (inr more)) =
        let reversed = nat_cmp_total.antisymm a b in
        absurd (grind (arith, nat_tests))

pub nat_cmp_equal : (x y : ℕ) → nat_cmp x y ≡ Equal → x ≡ y
nat_cmp_equal x y same = grind (arith, nat_tests)
