-- Lists that ascend, each element of which is above the one before it.
use Rattle.std.proofs.Common.{◌≡◌, true, List, [], ◌∷◌, ◌++◌, refl, ap}
use Rattle.std.specs.Ordering.{is_lt}
use Rattle.std.specs.declared.cmp.Ordering.{Ordering}
use Rattle.std.proofs.lemmas.Bool.{and_from, and_parts}
use Rattle.cm_lists.specs.Ascent.{ascends}
use Rattle.ex_image.specs.Reading.{stands_above}

-- one more above the last
pub ascends_more : {X : Type 0} (compare : X → X → Ordering) (xs : List X) (x : X) → ascends compare xs ≡ true
    → stands_above compare xs x ≡ true → ascends compare (xs ++ x ∷ []) ≡ true
ascends_more compare [] x ascend above = refl
ascends_more compare (y ∷ []) x ascend above = and_from _ _ above refl
ascends_more compare (y ∷ z ∷ xs) x ascend above =
    let both = and_parts _ _ ascend in
    and_from _ _ both.0 (ascends_more compare (z ∷ xs) x both.1 above)

-- each is above those before it
pub above_of : {X : Type 0} (compare : X → X → Ordering) (xs : List X) (x : X) (more : List X)
    → ascends compare (xs ++ x ∷ more) ≡ true → stands_above compare xs x ≡ true
above_of compare [] x more ascend = refl
above_of compare (y ∷ []) x more ascend = (and_parts _ _ ascend).0
above_of compare (y ∷ z ∷ xs) x more ascend = above_of compare (z ∷ xs) x more (and_parts _ _ ascend).1

-- what the order does not see
pub above_same : {X : Type 0} (compare : X → X → Ordering) (xs : List X) (x other : X)
    → ((y : X) → compare y x ≡ compare y other) → stands_above compare xs x ≡ stands_above compare xs other
above_same compare [] x other same = refl
above_same compare (y ∷ []) x other same = ap is_lt (same y)
above_same compare (y ∷ z ∷ xs) x other same = above_same compare (z ∷ xs) x other same
