-- What an edit keeps of a parse, and what the parse of the edited text then costs.
use Rattle.std.specs.Prelude.{◌≡◌, ℕ, zero, suc, ◌+◌, ◌-◌, ◌==◌, nat_le, if◌then◌else◌, List, [], ◌∷◌, ◌++◌, length}
use Rattle.std.specs.List.{common_prefix_len}
use Rattle.cm_blocks.specs.declared.field.Chain.{Chain}
use Rattle.cm_blocks.specs.declared.field.Chain.TheVariants as chain
use Rattle.cm_blocks.specs.declared.field.TheConstants.{FIELD_LIMIT}
use Rattle.cm_blocks.specs.Chain.{chain_at}
use Rattle.cm_blocks.specs.Parse.{answer_at, node_after, parse_of, place_after}
use Rattle.cm_blocks.specs.Setting.{Setting}
use Rattle.cm_blocks.specs.FieldView.{FieldView}

-- the fields before the first that needs more than so many bytes
abbrev pub decided_within : ℕ → List FieldView → List FieldView
decided_within size [] = []
decided_within size (field ∷ fields) = if nat_le field.need size then field ∷ decided_within size fields else []

-- how many bytes two texts begin with alike
abbrev pub common : List ℕ → List ℕ → ℕ
common old new = common_prefix_len (λ byte other. byte == other) old new

-- the fields of the old text that its common beginning with the new one decides
unfoldable pub kept : Setting → ℕ → List ℕ → List ℕ → List FieldView
kept s node old new = decided_within (common old new) (parse_of s node old).fields

-- what comes after a field costs more; after any other answer there is nothing
abbrev pub chain_cost : (FieldView → ℕ) → Chain → ℕ
chain_cost after (chain.Field field) = after field
chain_cost after (chain.Done place) = 0
chain_cost after (chain.Fault fault) = 0
chain_cost after (chain.Open place) = 0

-- what the trials of a parse cost from a node and a place on, after these fields, with room for so many more: that
-- of the ending too, and that of a field that is refused
abbrev pub cost_from : Setting → List ℕ → List FieldView → ℕ → ℕ → ℕ → ℕ
cost_from s text before zero node at = (chain_at s node text at).spent
cost_from s text before (suc room) node at =
    (chain_at s node text at).spent
    + chain_cost (λ field. cost_from s text (before ++ field ∷ []) room field.next field.end)
    (answer_at s text before node at)

-- what the parse of a text costs after fields that are kept
abbrev pub cost_after : Setting → ℕ → List ℕ → List FieldView → ℕ
cost_after s node text fields =
    cost_from s text fields (FIELD_LIMIT - length fields) (node_after node fields) (place_after 0 fields)

-- what the parse of the new text costs who holds that of the old one
unfoldable pub cost : Setting → ℕ → List ℕ → List ℕ → ℕ
cost s node old new = cost_after s node new (kept s node old new)

-- the whole list begins with this one
pub record BeginsWith (front whole : List FieldView) : Type 0 where
  pub rest : List FieldView
  pub joined : whole ≡ front ++ rest
