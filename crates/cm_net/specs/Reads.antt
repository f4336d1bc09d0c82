-- What is read of a text: the value that it writes, or nothing where it writes none.
use Rattle.std.specs.Prelude.{List, ℕ, Option, MatchOption}

-- the result is a value that the text writes, or none where it writes none
abbrev pub Reads : {A : Type 0} → (List ℕ → A → Type 0) → List ℕ → Option A → Type 0
Reads {A} Writes text result = MatchOption result ((value : A) → ¬ (Writes text value)) (Writes text)
