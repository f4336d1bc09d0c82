-- A trial of a finished text.
use Rattle.std.specs.Prelude.{ℕ, ◌+◌, ◌≤◌, Bool, not, List, length}
use Rattle.std.specs.List.{list_all}
use Rattle.cm_text.specs.Text.{finished}
use Rattle.cm_fields.specs.declared.trial.Try.{Try}
use Rattle.cm_fields.specs.declared.trial.Try.TheVariants.{Accept, Refuse, More}
use Rattle.cm_fields.specs.Phrase.{same_letter}

-- it is a decision, and a field of it ends within so many bytes
abbrev pub Decides : ℕ → ℕ → Try → Type 0
Decides at size (Accept value looked end) = end ≤ at + size
Decides at size (Refuse code looked) = Unit {0}
Decides at size More = ⊥

-- the end of the line decides every trial, and is no part of a field
abbrev pub DecidesFinished : (List ℕ → ℕ → Try) → Type 0
DecidesFinished trial = (line : List ℕ) → (at : ℕ) → Decides at (length line) (trial (finished line) at)

-- no byte of a phrase is the end of the line
abbrev pub has_no_end : List ℕ → Bool
has_no_end phrase = list_all (λ byte. not (same_letter byte 13)) phrase
