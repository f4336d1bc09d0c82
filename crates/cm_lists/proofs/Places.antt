-- Elements that are below, at and above a place, in this order, and the halving of them.
use Rattle.std.proofs.Common.{Bool, List, None, Some, [], ap, arith, cond, false, filter, get_or, length, not, position, refl, slice_get, suc, sym, true, zero, ℕ, ◌&&◌, ◌++◌, ◌+◌, ◌<◌, ◌∙◌, ◌∷◌, ◌≡◌, ◌≤◌}
use Rattle.std.specs.Cmp.{IsTotalOrder}
use Rattle.std.specs.List.{list_all, position_or_len, prefix_len}
use Rattle.std.specs.Ordering.{is_eq, is_gt, is_le, is_lt, ordering_reverse}
use Rattle.std.specs.declared.cmp.Ordering.{Ordering}
use Rattle.std.specs.declared.cmp.Ordering.TheVariants.{Equal, Greater, Less}
use Rattle.std.proofs.lemmas.Bool.{and_from, and_parts}
use Rattle.std.proofs.lemmas.List.{length-append, nil_from_length}
use Rattle.cm_lists.proofs.Ascents.{all_above, is_sorted}
use Rattle.cm_lists.proofs.Elements.{slice_get-append_add, slice_get-append_left}
use Rattle.cm_lists.proofs.Positions.{no_position, position_at}

-- what may be after an element of this place
abbrev pub may_follow : Ordering → Ordering → Bool
may_follow Less after = true
may_follow Equal after = not (is_lt after)
may_follow Greater after = is_gt after

-- places that never fall
abbrev pub rises : {X : Type 0} → (X → Ordering) → List X → Bool
rises place [] = true
rises place (x ∷ xs) = list_all (λ y. may_follow (place x) (place y)) xs && rises place xs

-- a list in three parts, where what passes a test is the middle one
pub record Parts {X : Type 0} (test : X → Bool) (xs middle : List X) (first after : ℕ) : Type 0 where
  pub lower : List X
  pub upper : List X
  pub whole : xs ≡ lower ++ (middle ++ upper)
  pub starts : first ≡ length lower
  pub ends : after ≡ length lower + length middle
  pub below : list_all (λ x. not (test x)) lower ≡ true
  pub above : list_all (λ x. not (test x)) upper ≡ true

pub none_below : {X : Type 0} (place : X → Ordering) (xs : List X) → list_all (λ y. not (is_lt (place y))) xs ≡ true
    → prefix_len (λ x. is_lt (place x)) xs ≡ 0
none_below place [] all = refl
none_below place (x ∷ xs) all = by (place x) (and_parts _ _ all).0
  where
    by : (o : Ordering) → not (is_lt o) ≡ true → cond (is_lt o) (1 + prefix_len (λ x. is_lt (place x)) xs) 0 ≡ 0
    by Less is = absurd (cc)
    by Equal is = refl
    by Greater is = refl

pub none_at : {X : Type 0} (place : X → Ordering) (xs : List X) → list_all (λ y. is_gt (place y)) xs ≡ true
    → (filter (λ x. is_eq (place x)) xs ≡ []) × (list_all (λ x. not (is_eq (place x))) xs ≡ true)
none_at place [] all = (refl, refl)
none_at {X} place (x ∷ xs) all = by (place x) (and_parts _ _ all).0 (none_at place xs (and_parts _ _ all).1)
  where
    by : (o : Ordering) → is_gt o ≡ true
        → (filter (λ x. is_eq (place x)) xs ≡ []) × (list_all (λ x. not (is_eq (place x))) xs ≡ true)
        → (cond (is_eq o) (x ∷ filter (λ x. is_eq (place x)) xs) (filter (λ x. is_eq (place x)) xs) ≡ [])
        × ((not (is_eq o) && list_all (λ x. not (is_eq (place x))) xs) ≡ true)
    by Less is rest = absurd (cc)
    by Equal is rest = absurd (cc)
    by Greater is rest = rest

abbrev pub parts_at : {X : Type 0} → (X → Ordering) → List X → Type 0
parts_at place xs =
    Parts (λ x. is_eq (place x)) xs (filter (λ x. is_eq (place x)) xs) (prefix_len (λ x. is_lt (place x)) xs)
    (prefix_len (λ x. is_le (place x)) xs)

pub parts_of : {X : Type 0} (place : X → Ordering) (xs : List X) → rises place xs ≡ true
    → Parts (λ x. is_eq (place x)) xs (filter (λ x. is_eq (place x)) xs) (prefix_len (λ x. is_lt (place x)) xs)
    (prefix_len (λ x. is_le (place x)) xs)
parts_of place [] rise =
    record { lower = []; upper = []; whole = refl; starts = refl; ends = refl; below = refl; above = refl }
parts_of {X} place (x ∷ xs) rise = by (place x) refl (and_parts _ _ rise).0 (parts_of place xs (and_parts _ _ rise).1)
  where
    by : (o : Ordering) → place x ≡ o → list_all (λ y. may_follow o (place y)) xs ≡ true → parts_at place xs
        → Parts (λ y. is_eq (place y)) (x ∷ xs)
        (cond (is_eq o) (x ∷ filter (λ y. is_eq (place y)) xs) (filter (λ y. is_eq (place y)) xs))
        (cond (is_lt o) (1 + prefix_len (λ y. is_lt (place y)) xs) 0)
        (cond (is_le o) (1 + prefix_len (λ y. is_le (place y)) xs) 0)
    by Less is follow rest =
        let starts = rest.starts in
        let ends = rest.ends in
        let here : not (is_eq (place x)) ≡ true = ap (λ (o : Ordering). not (is_eq o)) is in
        record {
          lower = x ∷ rest.lower;
          upper = rest.upper;
          whole = ap (λ more. x ∷ more) rest.whole;
          starts = omega arith;
          ends = omega arith;
          below = and_from _ _ here rest.below;
          above = rest.above;
        }
    by Equal is follow rest =
        let none = none_below place xs follow in
        let starts = rest.starts in
        let size : length rest.lower ≡ 0 = omega arith in
        let empty = nil_from_length rest.lower size in
        let ends = rest.ends in
        record {
          lower = [];
          upper = rest.upper;
          whole = ap (λ more. x ∷ more) (rest.whole ∙ ap (λ front. front ++ (filter (λ y. is_eq (place y)) xs ++ rest.upper)) empty);
          starts = refl;
          ends = omega arith;
          below = refl;
          above = rest.above;
        }
    by Greater is follow rest =
        let none = none_at place xs follow in
        let here : not (is_eq (place x)) ≡ true = ap (λ (o : Ordering). not (is_eq o)) is in
        let empty : filter (λ y. is_eq (place y)) xs ≡ [] = none.0 in
        let size : length (filter (λ y. is_eq (place y)) xs) ≡ 0 = ap length empty in
        record {
          lower = [];
          upper = x ∷ xs;
          whole = sym (ap (λ front. front ++ (x ∷ xs)) empty);
          starts = refl;
          ends = omega arith;
          below = refl;
          above = and_from _ _ here none.1;
        }

-- what passes a test that falls with the places is before what does not
pub follows_part : (test : Ordering → Bool) → ((a b : Ordering) → may_follow a b ≡ true → test b ≡ true → test a ≡ true)
    → {X : Type 0} (place : X → Ordering) (x d : X) (xs : List X) (j : ℕ) → j < length xs
    → list_all (λ y. may_follow (place x) (place y)) xs ≡ true → test (place (get_or xs j d)) ≡ true → test (place x) ≡ true
follows_part test falls place x d [] j within follow passes = absurd (omega arith)
follows_part test falls place x d (y ∷ xs) zero within follow passes =
    falls (place x) (place y) (and_parts _ _ follow).0 passes
follows_part test falls place x d (y ∷ xs) (suc j) within follow passes =
    follows_part test falls place x d xs j (omega arith) (and_parts _ _ follow).1 passes

pub parted : (test : Ordering → Bool) → ((a b : Ordering) → may_follow a b ≡ true → test b ≡ true → test a ≡ true)
    → {X : Type 0} (place : X → Ordering) (xs : List X) → rises place xs ≡ true → (i j : ℕ) (d : X) → i ≤ j → j < length xs
    → test (place (get_or xs j d)) ≡ true → test (place (get_or xs i d)) ≡ true
parted test falls place [] rise i j d low within passes = absurd (omega arith)
parted test falls place (x ∷ xs) rise zero zero d low within passes = passes
parted test falls place (x ∷ xs) rise zero (suc j) d low within passes =
    follows_part test falls place x d xs j (omega arith) (and_parts _ _ rise).0 passes
parted test falls place (x ∷ xs) rise (suc i) zero d low within passes = absurd (omega arith)
parted test falls place (x ∷ xs) rise (suc i) (suc j) d low within passes =
    parted test falls place xs (and_parts _ _ rise).1 i j d (omega arith) (omega arith) passes

pub lower_falls : (a b : Ordering) → may_follow a b ≡ true → is_lt b ≡ true → is_lt a ≡ true
lower_falls Less b follow is = refl
lower_falls Equal Less follow is = absurd (cc)
lower_falls Equal Equal follow is = absurd (cc)
lower_falls Equal Greater follow is = absurd (cc)
lower_falls Greater Less follow is = absurd (cc)
lower_falls Greater Equal follow is = absurd (cc)
lower_falls Greater Greater follow is = absurd (cc)

pub follows_itself : (o : Ordering) → may_follow o o ≡ true
follows_itself Less = refl
follows_itself Equal = refl
follows_itself Greater = refl

-- how long the middle part is, and where each of it stands
pub block_at : {X : Type 0} (test : X → Bool) (xs middle : List X) (first after : ℕ) → Parts test xs middle first after
    → (i : ℕ) → i < length middle → slice_get middle i ≡ slice_get xs (first + i)
block_at test xs middle first after parts i within =
    let start = parts.starts in
    sym (ap (λ (k : ℕ). slice_get xs (k + i)) start
    ∙ ap (λ each. slice_get each (length parts.lower + i)) parts.whole
    ∙ slice_get-append_add parts.lower (middle ++ parts.upper) i ∙ slice_get-append_left middle parts.upper i within)

pub block_within : {X : Type 0} (test : X → Bool) (xs middle : List X) (first after : ℕ) → Parts test xs middle first after
    → (after ≡ first + length middle) × (after ≤ length xs)
block_within test xs middle first after parts =
    let start = parts.starts in
    let end = parts.ends in
    let whole = ap length parts.whole in
    let outer = length-append parts.lower (middle ++ parts.upper) in
    let inner = length-append middle parts.upper in
    (omega arith, omega arith)

-- of two that do not fall, the second may follow the first, whatever is looked for
pub follows_of : {X : Type 0} (compare : X → X → Ordering) → IsTotalOrder compare → (wanted x y : X) → is_gt (compare x y) ≡ false
    → may_follow (compare x wanted) (compare y wanted) ≡ true
follows_of compare total wanted x y not_above = by (compare x y) refl not_above (compare x wanted) refl
  where
    by : (o : Ordering) → compare x y ≡ o → is_gt o ≡ false → (a : Ordering) → compare x wanted ≡ a
        → may_follow a (compare y wanted) ≡ true
    by Equal same not_above a is =
        let places : compare y wanted ≡ a = sym (total.congr x y wanted same) ∙ is in rw places (follows_itself a)
    by Less less not_above Less is = refl
    by Less less not_above Equal is =
        let below : compare wanted y ≡ Less = sym (total.congr x wanted y is) ∙ less in
        let after = total.antisymm y wanted ∙ ap ordering_reverse below in
        ap (λ (o : Ordering). not (is_lt o)) after
    by Less less not_above Greater is =
        let below : compare wanted x ≡ Less = total.antisymm wanted x ∙ ap ordering_reverse is in
        let far = total.trans wanted x y below less in
        let after = total.antisymm y wanted ∙ ap ordering_reverse far in
        ap is_gt after
    by Greater more not_above a is = absurd (cc)

-- what does not fall along sorted elements
pub rises_sorted : {X Y : Type 0} (compare : X → X → Ordering) (under : Y → Y → Ordering) → IsTotalOrder under → (part : X → Y)
    → ((x y : X) → is_lt (compare x y) ≡ true → is_gt (under (part x) (part y)) ≡ false) → (wanted : Y) (xs : List X)
    → is_sorted compare xs ≡ true → rises (λ x. under (part x) wanted) xs ≡ true
rises_sorted compare under total part falls wanted [] sorted = refl
rises_sorted {X} {Y} compare under total part falls wanted (x ∷ xs) sorted =
    let parts = and_parts _ _ sorted in
    and_from _ _ (after xs parts.0) (rises_sorted compare under total part falls wanted xs parts.1)
  where
    after : (more : List X) → all_above compare x more ≡ true
        → list_all (λ y. may_follow (under (part x) wanted) (under (part y) wanted)) more ≡ true
    after [] above = refl
    after (y ∷ more) above =
        let parts = and_parts _ _ above in
        and_from _ _ (follows_of under total wanted (part x) (part y) (falls x y parts.0)) (after more parts.1)

-- the first element at a place is the one after those below it
pub found_first : {X : Type 0} (place : X → Ordering) (xs : List X) (d : X)
    → prefix_len (λ x. is_lt (place x)) xs < length xs
    → is_eq (place (get_or xs (prefix_len (λ x. is_lt (place x)) xs) d)) ≡ true
    → position_or_len (λ x. is_eq (place x)) xs ≡ prefix_len (λ x. is_lt (place x)) xs
found_first place [] d within here = absurd (omega arith)
found_first {X} place (x ∷ xs) d within here = by (place x) refl (found_first place xs d) within here
  where
    by : (o : Ordering) → place x ≡ o
        → (prefix_len (λ y. is_lt (place y)) xs < length xs
        → is_eq (place (get_or xs (prefix_len (λ y. is_lt (place y)) xs) d)) ≡ true
        → position_or_len (λ y. is_eq (place y)) xs ≡ prefix_len (λ y. is_lt (place y)) xs)
        → cond (is_lt o) (1 + prefix_len (λ y. is_lt (place y)) xs) 0 < suc (length xs)
        → is_eq (place (get_or (x ∷ xs) (cond (is_lt o) (1 + prefix_len (λ y. is_lt (place y)) xs) 0) d)) ≡ true
        → cond (not (is_eq o)) (1 + position_or_len (λ y. is_eq (place y)) xs) 0
        ≡ cond (is_lt o) (1 + prefix_len (λ y. is_lt (place y)) xs) 0
    by Less is rest within here =
        let next : 1 + prefix_len (λ y. is_lt (place y)) xs ≡ suc (prefix_len (λ y. is_lt (place y)) xs) = omega arith in
        let there : is_eq (place (get_or xs (prefix_len (λ y. is_lt (place y)) xs) d)) ≡ true =
        ap (λ (n : ℕ). is_eq (place (get_or (x ∷ xs) n d))) (sym next) ∙ here in
        ap (λ n. 1 + n) (rest (omega arith) there)
    by Equal is rest within here = refl
    by Greater is rest within here =
        let there : is_eq (place x) ≡ true = here in
        let above : is_eq (place x) ≡ false = ap is_eq is in
        absurd (cc)

pub none_above : {X : Type 0} (place : X → Ordering) (xs : List X) → list_all (λ y. is_gt (place y)) xs ≡ true
    → position_or_len (λ x. is_eq (place x)) xs ≡ length xs
none_above place [] all = refl
none_above place (x ∷ xs) all = by (place x) (and_parts _ _ all).0 (none_above place xs (and_parts _ _ all).1)
  where
    by : (o : Ordering) → is_gt o ≡ true → position_or_len (λ y. is_eq (place y)) xs ≡ length xs
        → cond (not (is_eq o)) (1 + position_or_len (λ y. is_eq (place y)) xs) 0 ≡ suc (length xs)
    by Less is rest = absurd (cc)
    by Equal is rest = absurd (cc)
    by Greater is rest = omega arith

-- and where that one is at another place, none is at this one
pub found_none : {X : Type 0} (place : X → Ordering) (xs : List X) → rises place xs ≡ true
    → ((d : X) → prefix_len (λ x. is_lt (place x)) xs < length xs
    → is_eq (place (get_or xs (prefix_len (λ x. is_lt (place x)) xs) d)) ≡ false)
    → position_or_len (λ x. is_eq (place x)) xs ≡ length xs
found_none place [] rise other = refl
found_none {X} place (x ∷ xs) rise other =
    by (place x) refl (and_parts _ _ rise).0 (found_none place xs (and_parts _ _ rise).1) other
  where
    by : (o : Ordering) → place x ≡ o → list_all (λ y. may_follow o (place y)) xs ≡ true
        → (((d : X) → prefix_len (λ y. is_lt (place y)) xs < length xs
        → is_eq (place (get_or xs (prefix_len (λ y. is_lt (place y)) xs) d)) ≡ false)
        → position_or_len (λ y. is_eq (place y)) xs ≡ length xs)
        → ((d : X) → cond (is_lt o) (1 + prefix_len (λ y. is_lt (place y)) xs) 0 < suc (length xs)
        → is_eq (place (get_or (x ∷ xs) (cond (is_lt o) (1 + prefix_len (λ y. is_lt (place y)) xs) 0) d)) ≡ false)
        → cond (not (is_eq o)) (1 + position_or_len (λ y. is_eq (place y)) xs) 0 ≡ suc (length xs)
    by Less is follow rest other =
        let next : 1 + prefix_len (λ y. is_lt (place y)) xs ≡ suc (prefix_len (λ y. is_lt (place y)) xs) = omega arith in
        let size = rest (λ d within.
        ap (λ (n : ℕ). is_eq (place (get_or (x ∷ xs) n d))) (sym next) ∙ other d (omega arith)) in
        omega arith
    by Equal is follow rest other =
        let here : is_eq (place x) ≡ true = ap is_eq is in
        let not_here : is_eq (place x) ≡ false = other x (omega arith) in
        absurd (cc)
    by Greater is follow rest other = let size = none_above place xs follow in omega arith

-- the element at the place is the one that is looked for
pub found_at : {X : Type 0} (place : X → Ordering) (xs : List X) (at : ℕ) (x : X) → at ≡ prefix_len (λ y. is_lt (place y)) xs
    → at < length xs → x ≡ get_or xs at x → is_eq (place x) ≡ true → Some at ≡ position (λ y. is_eq (place y)) xs
found_at {X} place xs at x stands within is here =
    let there : is_eq (place (get_or xs (prefix_len (λ y. is_lt (place y)) xs) x)) ≡ true =
    ap (λ (n : ℕ). is_eq (place (get_or xs n x))) (sym stands) ∙ ap (λ (y : X). is_eq (place y)) (sym is) ∙ here in
    position_at (λ y. is_eq (place y)) xs at (found_first place xs x (omega arith) there ∙ sym stands) within

-- or there is none
pub none_there : {X : Type 0} (place : X → Ordering) (xs : List X) (at : ℕ) → rises place xs ≡ true
    → at ≡ prefix_len (λ y. is_lt (place y)) xs
    → ((d : X) → at < length xs → is_eq (place (get_or xs at d)) ≡ false) → None ≡ position (λ y. is_eq (place y)) xs
none_there place xs at rise stands other =
    no_position (λ y. is_eq (place y)) xs
    (found_none place xs rise (λ d within. ap (λ (n : ℕ). is_eq (place (get_or xs n d))) (sym stands) ∙ other d (omega arith)))
