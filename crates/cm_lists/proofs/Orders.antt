-- The three answers of a comparison.
use Rattle.std.proofs.Common.{arith, false, refl, true, ℕ, ◌≡◌, ◌≤◌}
use Rattle.std.specs.Ordering.{is_eq, is_gt, is_lt, nat_cmp, ordering_index, ordering_reverse, ordering_then}
use Rattle.std.specs.declared.cmp.Ordering.{Ordering}
use Rattle.std.specs.declared.cmp.Ordering.TheVariants.{Equal, Greater, Less}
use Rattle.std.proofs.lemmas.Bool.Decides.{nat_tests}

pub is_lt-true : (o : Ordering) → is_lt o ≡ true → o ≡ Less
is_lt-true Less is = refl
is_lt-true Equal is = absurd (cc)
is_lt-true Greater is = absurd (cc)

pub is_lt_from_less : (o : Ordering) → o ≡ Less → is_lt o ≡ true
is_lt_from_less o is = rw is refl

pub is_eq-true : (o : Ordering) → is_eq o ≡ true → o ≡ Equal
is_eq-true Less is = absurd (cc)
is_eq-true Equal is = refl
is_eq-true Greater is = absurd (cc)

pub is_eq_from_equal : (o : Ordering) → o ≡ Equal → is_eq o ≡ true
is_eq_from_equal o is = rw is refl

pub equal_from_reverse : (o : Ordering) → o ≡ ordering_reverse o → o ≡ Equal
equal_from_reverse Less is = absurd (cc)
equal_from_reverse Equal is = refl
equal_from_reverse Greater is = absurd (cc)

pub is_eq_from_reverse : (o : Ordering) → o ≡ ordering_reverse o → is_eq o ≡ true
is_eq_from_reverse Less is = absurd (cc)
is_eq_from_reverse Equal is = refl
is_eq_from_reverse Greater is = absurd (cc)

pub then_squeeze : (first second third fourth : Ordering) → ordering_then first (ordering_then second third) ≡ Less
    → ordering_then (ordering_reverse first) (ordering_then (ordering_reverse second) fourth) ≡ Less
    → (first ≡ Equal) × (second ≡ Equal)
then_squeeze Less second third fourth less after = absurd (cc)
then_squeeze Equal Less third fourth less after = absurd (cc)
then_squeeze Equal Equal third fourth less after = (refl, refl)
then_squeeze Equal Greater third fourth less after = absurd (cc)
then_squeeze Greater second third fourth less after = absurd (cc)

pub is_eq_then_first : (o p : Ordering) → is_eq (ordering_then o p) ≡ true → o ≡ Equal
is_eq_then_first Less p is = absurd (cc)
is_eq_then_first Equal p is = refl
is_eq_then_first Greater p is = absurd (cc)

pub ordering_index_most : (order : Ordering) → ordering_index order ≤ 2
ordering_index_most Less = omega arith
ordering_index_most Equal = omega arith
ordering_index_most Greater = omega arith

-- numbers that are compared with a third
pub ordering_index_then_less : (x y z : ℕ) (p q : Ordering) → nat_cmp x y ≡ Less
    → ordering_index (ordering_then (nat_cmp x z) p) ≤ ordering_index (ordering_then (nat_cmp y z) q)
ordering_index_then_less x y z p q less = by (nat_cmp x z) refl (nat_cmp y z) refl
  where
    by : (first : Ordering) → nat_cmp x z ≡ first → (second : Ordering) → nat_cmp y z ≡ second
        → ordering_index (ordering_then first p) ≤ ordering_index (ordering_then second q)
    by Less is second other = omega arith
    by Equal is Less other = grind (arith, nat_tests)
    by Equal is Equal other = grind (arith, nat_tests)
    by Equal is Greater other = ordering_index_most p
    by Greater is Less other = grind (arith, nat_tests)
    by Greater is Equal other = grind (arith, nat_tests)
    by Greater is Greater other = omega arith

pub ordering_index_then_same : (x z : ℕ) (p q : Ordering) → ordering_index p ≤ ordering_index q
    → ordering_index (ordering_then (nat_cmp x z) p) ≤ ordering_index (ordering_then (nat_cmp x z) q)
ordering_index_then_same x z p q least = by (nat_cmp x z)
  where
    by : (order : Ordering) → ordering_index (ordering_then order p) ≤ ordering_index (ordering_then order q)
    by Less = omega arith
    by Equal = least
    by Greater = omega arith

pub is_lt_by_index : (low high : Ordering) → ordering_index low ≤ ordering_index high → is_lt high ≡ true → is_lt low ≡ true
is_lt_by_index Less high le is = refl
is_lt_by_index Equal Less le is = absurd (omega arith)
is_lt_by_index Equal Equal le is = cc
is_lt_by_index Equal Greater le is = cc
is_lt_by_index Greater Less le is = absurd (omega arith)
is_lt_by_index Greater Equal le is = cc
is_lt_by_index Greater Greater le is = cc

-- what is not less and not the same is not the same further on
pub not_eq_by_index : (low high : Ordering) → ordering_index low ≤ ordering_index high → is_lt low ≡ false → is_eq low ≡ false
    → is_eq high ≡ false
not_eq_by_index Less high le below same = cc
not_eq_by_index Equal high le below same = cc
not_eq_by_index Greater Less le below same = absurd (omega arith)
not_eq_by_index Greater Equal le below same = absurd (omega arith)
not_eq_by_index Greater Greater le below same = refl

-- what is less is not the same, and greater turned round
pub lt_is_not_eq : (o : Ordering) → is_lt o ≡ true → is_eq o ≡ false
lt_is_not_eq Less is = refl
lt_is_not_eq Equal is = absurd (cc)
lt_is_not_eq Greater is = absurd (cc)

pub reverse_is_not_eq : (o p : Ordering) → o ≡ ordering_reverse p → is_lt p ≡ true → is_eq o ≡ false
reverse_is_not_eq o Less turned is = rw turned refl
reverse_is_not_eq o Equal turned is = absurd (cc)
reverse_is_not_eq o Greater turned is = absurd (cc)

pub lt_is_not_gt : (o : Ordering) → is_lt o ≡ true → is_gt o ≡ false
lt_is_not_gt Less less = refl
lt_is_not_gt Equal less = refl
lt_is_not_gt Greater less = absurd (cc)

-- where the whole is less, the first part is not greater
pub then_not_gt : (a b c d : Ordering) → ordering_then (ordering_then a (ordering_then b c)) d ≡ Less → is_gt a ≡ false
then_not_gt Less b c d less = refl
then_not_gt Equal b c d less = refl
then_not_gt Greater b c d less = absurd (cc)

-- four comparisons, the first three together
pub then_grouped : (first second third fourth : Ordering)
    → ordering_then first (ordering_then second (ordering_then third fourth))
    ≡ ordering_then (ordering_then first (ordering_then second third)) fourth
then_grouped Less second third fourth = refl
then_grouped Equal Less third fourth = refl
then_grouped Equal Equal third fourth = refl
then_grouped Equal Greater third fourth = refl
then_grouped Greater second third fourth = refl
