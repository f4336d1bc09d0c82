-- Elements in the order of a comparison.
use Rattle.std.proofs.Common.{Bool, List, [], ap, cond, false, filter, map, refl, true, ℕ, ◌&&◌, ◌∷◌, ◌≡◌}
use Rattle.std.specs.Cmp.{IsTotalOrder}
use Rattle.std.specs.List.{list_all, prefix_len}
use Rattle.std.specs.Ordering.{is_eq, is_lt, ordering_reverse}
use Rattle.std.specs.declared.cmp.Ordering.{Ordering}
use Rattle.std.specs.declared.cmp.Ordering.TheVariants.{Equal, Greater, Less}
use Rattle.std.proofs.lemmas.Bool.{and_from, and_parts}
use Rattle.cm_lists.specs.Ascent.{ascends}
use Rattle.cm_lists.proofs.Orders.{is_lt-true, is_lt_from_less}
use Rattle.cm_lists.proofs.Quantifiers.{all_filter}

-- each of these is above the one
abbrev pub all_above : {X : Type 0} → (X → X → Ordering) → X → List X → Bool
all_above compare x xs = list_all (λ other. is_lt (compare x other)) xs

-- each is below all after it
abbrev pub is_sorted : {X : Type 0} → (X → X → Ordering) → List X → Bool
is_sorted compare [] = true
is_sorted compare (x ∷ xs) = all_above compare x xs && is_sorted compare xs

pub above_chain : {X : Type 0} (compare : X → X → Ordering) → IsTotalOrder compare → (x y : X) (xs : List X)
    → is_lt (compare x y) ≡ true → all_above compare y xs ≡ true → all_above compare x xs ≡ true
above_chain compare total x y [] less above = refl
above_chain compare total x y (z ∷ xs) less above =
    let parts = and_parts _ _ above in
    and_from _ _ (is_lt_from_less _ (total.trans x y z (is_lt-true _ less) (is_lt-true _ parts.0)))
    (above_chain compare total x y xs less parts.1)

pub sorted_filter : {X : Type 0} (compare : X → X → Ordering) (keep : X → Bool) (xs : List X)
    → is_sorted compare xs ≡ true → is_sorted compare (filter keep xs) ≡ true
sorted_filter compare keep [] sorted = refl
sorted_filter compare keep (x ∷ xs) sorted = by (keep x) (sorted_filter compare keep xs (and_parts _ _ sorted).1)
  where
    by : (kept : Bool) → is_sorted compare (filter keep xs) ≡ true
        → is_sorted compare (cond kept (x ∷ filter keep xs) (filter keep xs)) ≡ true
    by true rest = and_from _ _ (all_filter _ keep xs (and_parts _ _ sorted).0) rest
    by false rest = rest

-- which of two is first, turned round
pub is_lt_turned : {X : Type 0} (compare : X → X → Ordering) → IsTotalOrder compare → (x y : X)
    → is_lt (compare x y) ≡ false → is_eq (compare x y) ≡ false → is_lt (compare y x) ≡ true
is_lt_turned compare total x y not_less not_same = by (compare x y) (compare y x) (total.antisymm x y) not_less not_same
  where
    by : (o p : Ordering) → o ≡ ordering_reverse p → is_lt o ≡ false → is_eq o ≡ false → is_lt p ≡ true
    by Less p is first second = absurd (cc)
    by Equal p is first second = absurd (cc)
    by Greater Less is first second = refl
    by Greater Equal is first second = absurd (cc)
    by Greater Greater is first second = absurd (cc)

-- how many are before its place
abbrev pub place_by : {X : Type 0} → (X → X → Ordering) → X → List X → ℕ
place_by compare new xs = prefix_len (λ other. is_lt (compare other new)) xs

-- what ascends is below all after it, and the reverse
pub sorted_ascends : {X : Type 0} (compare : X → X → Ordering) → IsTotalOrder compare → (xs : List X)
    → ascends compare xs ≡ true → is_sorted compare xs ≡ true
sorted_ascends compare total [] ascend = refl
sorted_ascends compare total (x ∷ []) ascend = refl
sorted_ascends compare total (x ∷ y ∷ xs) ascend =
    let parts = and_parts _ _ ascend in
    let rest = sorted_ascends compare total (y ∷ xs) parts.1 in
    and_from _ _
    (and_from _ _ parts.0 (above_chain compare total x y xs parts.0 (and_parts _ _ rest).0)) rest

pub ascends_sorted : {X : Type 0} (compare : X → X → Ordering) (xs : List X)
    → is_sorted compare xs ≡ true → ascends compare xs ≡ true
ascends_sorted compare [] sorted = refl
ascends_sorted compare (x ∷ []) sorted = refl
ascends_sorted compare (x ∷ y ∷ xs) sorted =
    let parts = and_parts _ _ sorted in
    and_from _ _ (and_parts _ _ parts.0).0 (ascends_sorted compare (y ∷ xs) parts.1)

-- elements that are kept still ascend
pub ascends_filter : {X : Type 0} (compare : X → X → Ordering) → IsTotalOrder compare → (keep : X → Bool) (xs : List X)
    → ascends compare xs ≡ true → ascends compare (filter keep xs) ≡ true
ascends_filter compare total keep xs ascend =
    ascends_sorted compare (filter keep xs) (sorted_filter compare keep xs (sorted_ascends compare total xs ascend))

-- a change that the order does not see
pub ascends_map : {X Y : Type 0} (compare : Y → Y → Ordering) (under : X → X → Ordering) (f : X → Y)
    → ((x y : X) → compare (f x) (f y) ≡ under x y) → (xs : List X) → ascends compare (map f xs) ≡ ascends under xs
ascends_map compare under f same [] = refl
ascends_map compare under f same (x ∷ []) = refl
ascends_map compare under f same (x ∷ y ∷ xs) =
    rw (same x y) (ap (λ rest. is_lt (under x y) && rest) (ascends_map compare under f same (y ∷ xs)))
