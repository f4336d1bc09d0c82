-- How many chain trials a parse makes.
use Rattle.std.specs.Prelude.{ℕ, zero, suc, ◌+◌, List, [], ◌∷◌, ◌++◌}
use Rattle.cm_blocks.specs.FieldView.{FieldView}
use Rattle.cm_blocks.specs.Parse.{answer_at}
use Rattle.cm_blocks.specs.Setting.{Setting}
use Rattle.cm_blocks.specs.declared.field.Chain.{Chain}
use Rattle.cm_blocks.specs.declared.field.Chain.TheVariants as chain
use Rattle.cm_blocks.specs.declared.field.TheConstants.{FIELD_LIMIT}

-- how many follow the answer of a trial: those after its field, or none
abbrev pub trials_after : (FieldView → ℕ) → Chain → ℕ
trials_after after (chain.Field field) = after field
trials_after after (chain.Done place) = 0
trials_after after (chain.Fault fault) = 0
trials_after after (chain.Open place) = 0

-- from a node and a place on, after these fields, with room for so many more: the trial there, and those that
-- follow it
abbrev pub trials_from : Setting → List ℕ → List FieldView → ℕ → ℕ → ℕ → ℕ
trials_from s text before zero node at = 1
trials_from s text before (suc room) node at =
    1
    + trials_after (λ field. trials_from s text (before ++ field ∷ []) room field.next field.end)
    (answer_at s text before node at)

-- the trials of the parse of a text from a node on
unfoldable pub trials_of : Setting → ℕ → List ℕ → ℕ
trials_of s node text = trials_from s text [] FIELD_LIMIT node 0
