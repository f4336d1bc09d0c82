-- The list at a place.
use Rattle.std.proofs.Common.{◌≡◌, ℕ, zero, suc, ◌<◌, ◌≤◌, List, [], ◌∷◌, length, get_or, map, refl, arith}

pub list_there : {X : Type 0} (items : X → List (List ℕ)) (lists : List X) (place : ℕ) (other : X) → place < length lists
    → items (get_or lists place other) ≡ get_or (map items lists) place []
list_there items [] place other within = absurd (omega (arith, within))
list_there items (first ∷ more) zero other within = refl
list_there items (first ∷ more) (suc place) other within = list_there items more place other (omega (arith, within))

pub list_past : {X : Type 0} (items : X → List (List ℕ)) (lists : List X) (place : ℕ) → length lists ≤ place
    → get_or (map items lists) place [] ≡ []
list_past items [] place past = refl
list_past items (first ∷ more) zero past = absurd (omega (arith, past))
list_past items (first ∷ more) (suc place) past = list_past items more place (omega (arith, past))
