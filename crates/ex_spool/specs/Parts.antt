-- A list in parts.
use Rattle.std.specs.Prelude.{ℕ, ◌+◌, ◌==◌, List, [], ◌∷◌, ◌++◌, length, if◌then◌else◌}

module _ {X : Type 0} where
  -- what is left at the end is a part too, where anything is
  abbrev pub last_part : List X → List (List X)
  last_part [] = []
  last_part (x ∷ xs) = (x ∷ xs) ∷ []

  -- the parts of a list, of which the first is begun: each of so many elements, and the last may have fewer
  abbrev pub parts_after : ℕ → List X → List X → List (List X)
  parts_after size begun [] = last_part begun
  parts_after size begun (x ∷ xs) =
      if length begun + 1 == size then (begun ++ x ∷ []) ∷ parts_after size [] xs
      else parts_after size (begun ++ x ∷ []) xs

  -- the parts of a list
  unfoldable pub parts : ℕ → List X → List (List X)
  parts size xs = parts_after size [] xs
