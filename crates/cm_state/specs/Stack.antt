-- The fields that are held, and where the parse of a text goes on after them.
use Rattle.std.specs.Prelude.{◌≡◌, ℕ, ◌+◌, ◌-◌, ◌<◌, ◌≤◌, nat_le, if◌then◌else◌, List, [], ◌∷◌, length, Option, Some, None}
use Rattle.cm_blocks.specs.declared.field.TheConstants.{FIELD_LIMIT}
use Rattle.cm_blocks.specs.Parse.{node_after, parse_from, parse_of, place_after, with_fields}
use Rattle.cm_blocks.specs.Setting.{Setting}
use Rattle.cm_blocks.specs.FieldView.{FieldView}

-- the fields before the first place that has none
abbrev pub somes : List (Option FieldView) → List FieldView
somes [] = []
somes (None ∷ more) = []
somes (Some field ∷ more) = field ∷ somes more

-- the place, counted from this number on, of the first field that needs more than so many bytes
abbrev pub first_decided_within : ℕ → ℕ → List (Option FieldView) → ℕ
first_decided_within size number [] = number
first_decided_within size number (None ∷ more) = number
first_decided_within size number (Some field ∷ more) =
    if nat_le field.need size then first_decided_within size (number + 1) more else number

-- the parse of a text begins with these fields, and goes on after them at a node of the grammar and in the text
pub record Starts (s : Setting) (start : ℕ) (text : List ℕ) (fields : List FieldView) : Type 0 where
  pub few : length fields ≤ FIELD_LIMIT
  pub node : node_after start fields < length s.graph.nodes
  pub place : place_after 0 fields ≤ length text
  pub parse : parse_of s start text
      ≡ with_fields fields (parse_from s text fields (FIELD_LIMIT - length fields)
      (node_after start fields) (place_after 0 fields))
