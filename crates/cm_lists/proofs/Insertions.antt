-- An element is inserted at its place among others that ascend, or taken out of them: what ascends does so still.
use Rattle.std.proofs.Common.{◌≡◌, ◌<◌, ◌+◌, Bool, true, false, not, ◌||◌, cond, List, [], ◌∷◌, length, insert, filter, refl, ap, arith, sym, ◌∙◌}
use Rattle.std.specs.Cmp.{IsTotalOrder}
use Rattle.std.specs.List.{list_all, list_any, remove}
use Rattle.std.specs.Ordering.{is_eq, is_lt}
use Rattle.std.specs.declared.cmp.Ordering.{Ordering}
use Rattle.std.specs.declared.cmp.Ordering.TheVariants.{Equal, Greater, Less}
use Rattle.std.proofs.lemmas.Bool.{and_from, and_parts, or_parts}
use Rattle.cm_lists.specs.Ascent.{ascends, insertion}
use Rattle.cm_lists.proofs.Ascents.{above_chain, all_above, is_lt_turned, is_sorted, place_by}
use Rattle.cm_lists.proofs.Numbers.{one_add}
use Rattle.cm_lists.proofs.Orders.{reverse_is_not_eq}

pub inserted_there : {X : Type 0} (compare : X → X → Ordering) (new : X) (xs : List X)
    → insert xs (place_by compare new xs) new ≡ insertion compare new xs
inserted_there compare new [] = refl
inserted_there compare new (other ∷ more) = by (is_lt (compare other new)) (inserted_there compare new more)
  where
    by : (below : Bool) → insert more (place_by compare new more) new ≡ insertion compare new more
        → insert (other ∷ more) (cond below (1 + place_by compare new more) 0) new
        ≡ cond below (other ∷ insertion compare new more) (new ∷ other ∷ more)
    by true rest = rw (one_add (place_by compare new more)) (ap (λ others. other ∷ others) rest)
    by false rest = refl

-- among others that differ from it
pub inserted_ascends : {X : Type 0} (compare : X → X → Ordering) → IsTotalOrder compare → (new : X) (xs : List X)
    → ascends compare xs ≡ true → list_any (λ other. is_eq (compare other new)) xs ≡ false
    → ascends compare (insertion compare new xs) ≡ true
inserted_ascends compare total new [] ascend apart = refl
inserted_ascends compare total new (other ∷ []) ascend apart = by (is_lt (compare other new)) refl
  where
    by : (below : Bool) → is_lt (compare other new) ≡ below
        → ascends compare (cond below (other ∷ new ∷ []) (new ∷ other ∷ [])) ≡ true
    by true is = and_from _ _ is refl
    by false is = and_from _ _ (is_lt_turned compare total other new is (or_parts _ _ apart).0) refl
inserted_ascends compare total new (other ∷ next ∷ more) ascend apart =
    by (is_lt (compare other new)) (is_lt (compare next new)) refl
    (inserted_ascends compare total new (next ∷ more) (and_parts _ _ ascend).1 (or_parts _ _ apart).1)
  where
    by : (below under : Bool) → is_lt (compare other new) ≡ below
        → ascends compare (cond under (next ∷ insertion compare new more) (new ∷ next ∷ more)) ≡ true
        → ascends compare (cond below (other ∷ cond under (next ∷ insertion compare new more) (new ∷ next ∷ more)) (new ∷ other ∷ next ∷ more)) ≡ true
    by true true is rest = and_from _ _ (and_parts _ _ ascend).0 rest
    by true false is rest = and_from _ _ is rest
    by false under is rest = and_from _ _ (is_lt_turned compare total other new is (or_parts _ _ apart).0) ascend

pub inserted_all : {X : Type 0} (compare : X → X → Ordering) (test : X → Bool) (new : X) (xs : List X) → test new ≡ true
    → list_all test xs ≡ true → list_all test (insertion compare new xs) ≡ true
inserted_all compare test new [] is all = and_from _ _ is refl
inserted_all compare test new (other ∷ more) is all =
    by (is_lt (compare other new)) (inserted_all compare test new more is (and_parts _ _ all).1)
  where
    by : (below : Bool) → list_all test (insertion compare new more) ≡ true
        → list_all test (cond below (other ∷ insertion compare new more) (new ∷ other ∷ more)) ≡ true
    by true rest = and_from _ _ (and_parts _ _ all).0 rest
    by false rest = and_from _ _ is all

pub inserted_length : {X : Type 0} (compare : X → X → Ordering) (new : X) (xs : List X)
    → length (insertion compare new xs) ≡ length xs + 1
inserted_length compare new [] = refl
inserted_length compare new (other ∷ more) = by (is_lt (compare other new)) (inserted_length compare new more)
  where
    by : (below : Bool) → length (insertion compare new more) ≡ length more + 1
        → length (cond below (other ∷ insertion compare new more) (new ∷ other ∷ more)) ≡ length (other ∷ more) + 1
    by true rest = omega arith
    by false rest = omega arith

-- none of these is taken out
pub none_removed : {X : Type 0} (test : X → Bool) (xs : List X) → list_any test xs ≡ false
    → filter (λ x. not (test x)) xs ≡ xs
none_removed test [] none = refl
none_removed {X} test (x ∷ xs) none = by (test x) (or_parts _ _ none).0 (none_removed test xs (or_parts _ _ none).1)
  where
    by : (found : Bool) → found ≡ false → filter (λ (y : X). not (test y)) xs ≡ xs
        → cond (not found) (x ∷ filter (λ (y : X). not (test y)) xs) (filter (λ (y : X). not (test y)) xs) ≡ x ∷ xs
    by true is rest = absurd (cc)
    by false is rest = ap (λ others. x ∷ others) rest

-- an element that is one with another is at its place
pub found_within : {X : Type 0} (compare : X → X → Ordering) (one : X) (xs : List X)
    → list_any (λ other. is_eq (compare other one)) xs ≡ true → place_by compare one xs < length xs
found_within compare one [] some = absurd (cc)
found_within {X} compare one (x ∷ xs) some = by (compare x one) (found_within compare one xs) some
  where
    by : (o : Ordering)
        → (list_any (λ (other : X). is_eq (compare other one)) xs ≡ true → place_by compare one xs < length xs)
        → (is_eq o || list_any (λ (other : X). is_eq (compare other one)) xs) ≡ true
        → cond (is_lt o) (1 + place_by compare one xs) 0 < length (x ∷ xs)
    by Less rest is = let within = rest is in omega arith
    by Equal rest is = omega arith
    by Greater rest is = omega arith

-- none of those that are above one is it
above_differs : {X : Type 0} (compare : X → X → Ordering) → IsTotalOrder compare → (one : X) (xs : List X)
    → all_above compare one xs ≡ true → list_any (λ other. is_eq (compare other one)) xs ≡ false
above_differs compare total one [] above = refl
above_differs {X} compare total one (x ∷ xs) above =
    let parts = and_parts _ _ above in
    both _ _ (reverse_is_not_eq (compare x one) (compare one x) (total.antisymm x one) parts.0)
    (above_differs compare total one xs parts.1)
  where
    both : (a b : Bool) → a ≡ false → b ≡ false → (a || b) ≡ false
    both false false first second = refl
    both true b first second = absurd (cc)
    both a true first second = absurd (cc)

-- what is above one is above another that it equals, or is above
above_equal : {X : Type 0} (compare : X → X → Ordering) → IsTotalOrder compare → (x one : X) (xs : List X)
    → compare x one ≡ Equal → all_above compare x xs ≡ true → all_above compare one xs ≡ true
above_equal compare total x one [] same above = refl
above_equal compare total x one (y ∷ ys) same above =
    let parts = and_parts _ _ above in
    and_from _ _ (ap is_lt (sym (total.congr x one y same)) ∙ parts.0) (above_equal compare total x one ys same parts.1)

above_greater : {X : Type 0} (compare : X → X → Ordering) → IsTotalOrder compare → (x one : X) (xs : List X)
    → is_lt (compare one x) ≡ true → all_above compare x xs ≡ true → all_above compare one xs ≡ true
above_greater compare total x one xs less above = above_chain compare total one x xs less above

-- to take one out at its place is to keep all others
pub removed_there : {X : Type 0} (compare : X → X → Ordering) → IsTotalOrder compare → (one : X) (xs : List X)
    → is_sorted compare xs ≡ true → list_any (λ other. is_eq (compare other one)) xs ≡ true
    → remove xs (place_by compare one xs) ≡ filter (λ other. not (is_eq (compare other one))) xs
removed_there compare total one [] sorted some = absurd (cc)
removed_there {X} compare total one (x ∷ xs) sorted some =
    by (compare x one) refl (removed_there compare total one xs (and_parts _ _ sorted).1) some
  where
    above : all_above compare x xs ≡ true
    above = (and_parts _ _ sorted).0

    by : (o : Ordering) → compare x one ≡ o
        → (list_any (λ (other : X). is_eq (compare other one)) xs ≡ true
        → remove xs (place_by compare one xs) ≡ filter (λ (other : X). not (is_eq (compare other one))) xs)
        → (is_eq o || list_any (λ (other : X). is_eq (compare other one)) xs) ≡ true
        → remove (x ∷ xs) (cond (is_lt o) (1 + place_by compare one xs) 0)
        ≡ cond (not (is_eq o)) (x ∷ filter (λ (other : X). not (is_eq (compare other one))) xs) (filter (λ (other : X). not (is_eq (compare other one))) xs)
    by Less is rest found = rw (one_add (place_by compare one xs)) (ap (λ others. x ∷ others) (rest found))
    by Equal is rest found = sym (none_removed (λ (other : X). is_eq (compare other one)) xs
        (above_differs compare total one xs (above_equal compare total x one xs is above)))
    by Greater is rest found =
        let less : is_lt (compare one x) ≡ true = is_lt_turned compare total x one (ap is_lt is) (ap is_eq is) in
        let none = above_differs compare total one xs (above_greater compare total x one xs less above) in
        absurd (cc)
