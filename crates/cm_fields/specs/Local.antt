-- A trial depends on no more of the text than it looked at.
use Rattle.std.specs.Prelude.{ℕ, ◌≡◌, ◌≤◌, List, ◌++◌, length}
use Rattle.cm_fields.specs.declared.trial.Try.{Try}
use Rattle.cm_fields.specs.declared.trial.Try.TheVariants.{Accept, Refuse, More}

-- the other answer is this one, where the first so many bytes decide this one
abbrev pub Holds : ℕ → Try → Try → Type 0
Holds size (Accept value looked end) other = looked ≤ size → other ≡ Accept value looked end
Holds size (Refuse code looked) other = looked ≤ size → other ≡ Refuse code looked
Holds size More other = Unit {0}

-- a decision looks at no more bytes than there are
abbrev pub IsSeen : ℕ → Try → Type 0
IsSeen size (Accept value looked end) = looked ≤ size
IsSeen size (Refuse code looked) = looked ≤ size
IsSeen size More = Unit {0}

-- the later answer is this one, where this is a decision
abbrev pub Stays : Try → Try → Type 0
Stays (Accept value looked end) later = later ≡ Accept value looked end
Stays (Refuse code looked) later = later ≡ Refuse code looked
Stays More later = Unit {0}

-- what the first bytes decide they decide however the text goes on, and so a decision on a text is the
-- decision on every longer text
pub record IsLocal (trial : List ℕ → ℕ → Try) : Type 0 where
  pub decided : (front more other : List ℕ) → (at : ℕ)
      → Holds (length front) (trial (front ++ more) at) (trial (front ++ other) at)
  pub seen : (rest : List ℕ) → (at : ℕ) → IsSeen (length rest) (trial rest at)
  pub stays : (rest more : List ℕ) → (at : ℕ) → Stays (trial rest at) (trial (rest ++ more) at)
