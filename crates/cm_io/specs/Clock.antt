-- The moments that a clock gives, in seconds since 1-JAN-1970.
use Rattle.std.specs.Prelude.{ℕ, List, [], ◌∷◌}

-- the next moment: the first of those to come, or 0
abbrev pub next_moment : List ℕ → ℕ
next_moment [] = 0
next_moment (moment ∷ moments) = moment

-- those to come after it: the last is given again and again
abbrev pub later_moments : List ℕ → List ℕ
later_moments [] = []
later_moments (moment ∷ []) = moment ∷ []
later_moments (moment ∷ next ∷ moments) = next ∷ moments
