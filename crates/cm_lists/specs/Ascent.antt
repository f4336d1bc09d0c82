-- Lists that ascend in the order of a comparison.
use Rattle.std.specs.Prelude.{Bool, true, ◌&&◌, if◌then◌else◌, List, [], ◌∷◌}
use Rattle.std.specs.Ordering.{is_lt}
use Rattle.std.specs.declared.cmp.Ordering.{Ordering}

-- each is below the next
abbrev pub ascends : {X : Type 0} → (X → X → Ordering) → List X → Bool
ascends compare [] = true
ascends compare (x ∷ []) = true
ascends compare (x ∷ y ∷ more) = is_lt (compare x y) && ascends compare (y ∷ more)

-- one more, after those that are below it
abbrev pub insertion : {X : Type 0} → (X → X → Ordering) → X → List X → List X
insertion compare new [] = new ∷ []
insertion compare new (other ∷ more) =
    if is_lt (compare other new) then other ∷ insertion compare new more else new ∷ other ∷ more
