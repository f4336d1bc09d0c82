-- The parse of a whole text: its fields, and what is after the last.
use Rattle.std.specs.Prelude.{◌≡◌, ℕ, zero, suc, ◌<◌, ◌≤◌, List, [], ◌∷◌, ◌++◌, length, Some}
use Rattle.cm_fields.specs.declared.code.Code.TheVariants.{TooMany}
use Rattle.cm_blocks.specs.declared.field.Chain.{Chain}
use Rattle.cm_blocks.specs.declared.field.Chain.TheVariants as chain
use Rattle.cm_blocks.specs.declared.field.Ending.{Ending}
use Rattle.cm_blocks.specs.declared.field.Ending.TheVariants as ending
use Rattle.cm_blocks.specs.declared.field.TheConstants.{FIELD_LIMIT}
use Rattle.cm_blocks.specs.Chain.{chain_at}
use Rattle.cm_blocks.specs.Once.{AreApart, unless_repeated}
use Rattle.cm_blocks.specs.Setting.{Setting}
use Rattle.cm_blocks.specs.FieldView.{FieldView}

pub record Parse : Type 0 where
  pub fields : List FieldView
  pub ending : Ending

-- how a parse ends whose next trial answers so; a field is one too many
abbrev pub ending_of : Chain → Ending
ending_of (chain.Field field) = ending.Fault (record { code = TooMany; node = field.node; at = field.start })
ending_of (chain.Done place) = ending.Done
ending_of (chain.Fault fault) = ending.Fault fault
ending_of (chain.Open place) = ending.Open place

-- after these fields the parse goes on so
abbrev pub with_fields : List FieldView → Parse → Parse
with_fields fields parse = record { fields = fields ++ parse.fields; ending = parse.ending }

-- the parse after a chain has answered: its field and what comes after it, or the ending
abbrev pub after_chain : (FieldView → Parse) → Chain → Parse
after_chain after (chain.Field field) = with_fields (field ∷ []) (after field)
after_chain after (chain.Done place) = record { fields = []; ending = ending.Done }
after_chain after (chain.Fault fault) = record { fields = []; ending = ending.Fault fault }
after_chain after (chain.Open place) = record { fields = []; ending = ending.Open place }

-- what the chain of a node answers after these fields: a field that repeats an option of theirs is refused
abbrev pub answer_at : Setting → List ℕ → List FieldView → ℕ → ℕ → Chain
answer_at s text before node at = unless_repeated s.graph before (chain_at s node text at).chain

-- the parse from a node and a place on, after these fields, with room for so many more
abbrev pub parse_from : Setting → List ℕ → List FieldView → ℕ → ℕ → ℕ → Parse
parse_from s text before zero node at = record { fields = []; ending = ending_of (answer_at s text before node at) }
parse_from s text before (suc room) node at =
    after_chain (λ field. parse_from s text (before ++ field ∷ []) room field.next field.end)
    (answer_at s text before node at)

-- [key-parse] the parse of a text from a node on
unfoldable pub parse_of : Setting → ℕ → List ℕ → Parse
parse_of s node text = parse_from s text [] FIELD_LIMIT node 0

-- the node and the place after fields, or those from which they are sought
abbrev pub node_after : ℕ → List FieldView → ℕ
node_after node [] = node
node_after node (field ∷ fields) = node_after field.next fields

abbrev pub place_after : ℕ → List FieldView → ℕ
place_after at [] = at
place_after at (field ∷ fields) = place_after field.end fields

-- each field is what the chain answers after the one before
abbrev pub Follow : Setting → List ℕ → ℕ → ℕ → List FieldView → Type 0
Follow s text node at [] = Unit {0}
Follow s text node at (field ∷ fields) =
    ((chain_at s node text at).chain ≡ chain.Field field) × Follow s text field.next field.end fields

-- the chain takes no further field
abbrev pub IsLast : Chain → Type 0
IsLast (chain.Field field) = ⊥
IsLast (chain.Done place) = Unit {0}
IsLast (chain.Fault fault) = Unit {0}
IsLast (chain.Open place) = Unit {0}

-- from a node and a place on, after the fields before, a text has these fields, of which there is room for so many
-- and none of which repeats an option, and ends so
pub record Parses (s : Setting) (text : List ℕ) (before : List FieldView) (room node at : ℕ)
    (fields : List FieldView) (ends : Ending) : Type 0 where
  pub few : length fields ≤ room
  pub follow : Follow s text node at fields
  pub once : AreApart s.graph before fields
  pub ending : ends
      ≡ ending_of (answer_at s text (before ++ fields) (node_after node fields) (place_after at fields))
  pub last : length fields < room
      → IsLast (answer_at s text (before ++ fields) (node_after node fields) (place_after at fields))

-- the fields and the ending are the parse of the whole text
abbrev pub IsParse : Setting → ℕ → List ℕ → List FieldView → Ending → Type 0
IsParse s node text fields ends = Parses s text [] FIELD_LIMIT node 0 fields ends

-- the start of a parse: the first block of the node wants more
abbrev pub open_at : ℕ → ℕ → Ending
open_at node at = ending.Open (record { node = node; block = Some 0; at = at })

-- the parse has come to a decision
abbrev pub IsClosed : Ending → Type 0
IsClosed (ending.Open place) = ⊥
IsClosed ending.Done = Unit {0}
IsClosed (ending.Fault fault) = Unit {0}
