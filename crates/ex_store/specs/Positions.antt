-- The places of those elements of a list that pass a test.
use Rattle.std.specs.Prelude.{ℕ, ◌+◌, Bool, if◌then◌else◌, List, [], ◌∷◌, ◌++◌, drop, map, slice_get, take}
use Rattle.std.specs.List.{fold}
use Rattle.std.specs.Option.{option_to_list}

-- counted from a number on
abbrev pub positions_from : {X : Type 0} → (X → Bool) → ℕ → List X → List ℕ
positions_from test at [] = []
positions_from test at (x ∷ more) =
    if test x then at ∷ positions_from test (at + 1) more else positions_from test (at + 1) more

-- the elements at some places
abbrev pub elements_at : {X : Type 0} → List X → List ℕ → List X
elements_at xs [] = []
elements_at xs (at ∷ more) = option_to_list (slice_get xs at) ++ elements_at xs more

-- the elements at some places are changed, one after the other
abbrev pub changed_at : {X : Type 0} → (X → X) → List X → ℕ → List X
changed_at change xs at = take at xs ++ map change (take 1 (drop at xs)) ++ drop (at + 1) xs

abbrev pub all_changed_at : {X : Type 0} → (X → X) → List X → List ℕ → List X
all_changed_at change xs positions = fold (changed_at change) xs positions
