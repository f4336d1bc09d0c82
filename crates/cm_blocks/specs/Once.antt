-- Options: keywords and switches that a line has at most once.
use Rattle.std.specs.Prelude.{◌≡◌, ℕ, Bool, false, not, ◌&&◌, ◌==◌, if◌then◌else◌, List, [], ◌∷◌, ◌++◌, Option, Some, None, slice_get}
use Rattle.std.specs.List.{list_any}
use Rattle.std.specs.Option.{option_map_or}
use Rattle.cm_fields.specs.declared.code.Code.TheVariants.{Repeated}
use Rattle.cm_fields.specs.declared.value.Value.{Value}
use Rattle.cm_fields.specs.declared.value.Value.TheVariants as values
use Rattle.cm_blocks.specs.declared.field.Chain.{Chain}
use Rattle.cm_blocks.specs.declared.field.Chain.TheVariants as chain
use Rattle.cm_blocks.specs.declared.node.Block.{Block}
use Rattle.cm_blocks.specs.declared.node.Node.{Node}
use Rattle.cm_blocks.specs.Fault.{table_number}
use Rattle.cm_blocks.specs.FieldView.{FieldView}
use Rattle.cm_blocks.specs.Grammar.{Graph}

-- the table of which the block takes each entry once
abbrev pub once_table : Block → Option ℕ
once_table block = if block.once then table_number block.function else None

-- the block of a node
abbrev pub block_at : Graph → ℕ → ℕ → Option Block
block_at graph node block =
    option_map_or (λ (it : Node). slice_get it.chain block) (slice_get graph.nodes node) None

-- the table of which the block that took a field takes each entry once
abbrev pub field_table : Graph → FieldView → Option ℕ
field_table graph field = option_map_or once_table (block_at graph field.node field.block) None

-- the position of the entry that a keyword or a switch is
abbrev pub entry_of : Value → Option ℕ
entry_of (values.Key entry code) = Some entry
entry_of (values.Switch entry code) = Some entry
entry_of value = None

abbrev pub is_number : ℕ → Option ℕ → Bool
is_number number found = option_map_or (λ it. it == number) found false

-- the field is this option: the entry at this position of this table
abbrev pub is_option : Graph → ℕ → ℕ → FieldView → Bool
is_option graph table entry field =
    is_number table (field_table graph field) && is_number entry (entry_of field.value)

-- so is the field of a place that has one
abbrev pub is_option_at : Graph → ℕ → ℕ → Option FieldView → Bool
is_option_at graph table entry place = option_map_or (is_option graph table entry) place false

-- [once] one of the fields is this option
unfoldable pub is_used : Graph → List FieldView → ℕ → ℕ → Bool
is_used graph fields table entry = list_any (is_option graph table entry) fields

-- the option of this table at this position, where there are both, is one of the fields
abbrev pub uses : Graph → List FieldView → Option ℕ → Option ℕ → Bool
uses graph fields (Some table) (Some entry) = is_used graph fields table entry
uses graph fields table entry = false

-- [once] the entry at this position of a block's table may come behind these fields: none of them is it yet, where a
-- line has it once
unfoldable pub may_come : Graph → List FieldView → Block → ℕ → Bool
may_come graph fields block position = not (uses graph fields (once_table block) (Some position))

-- a field is an option that one of the fields before it is
unfoldable pub repeats : Graph → List FieldView → FieldView → Bool
repeats graph before field = uses graph before (field_table graph field) (entry_of field.value)

-- a field that repeats an option is refused; any other answer stands
abbrev pub unless_repeated : Graph → List FieldView → Chain → Chain
unless_repeated graph before (chain.Field field) =
    if repeats graph before field
    then chain.Fault (record { code = Repeated; node = field.node; at = field.start })
    else chain.Field field
unless_repeated graph before (chain.Done place) = chain.Done place
unless_repeated graph before (chain.Fault fault) = chain.Fault fault
unless_repeated graph before (chain.Open place) = chain.Open place

-- the fields of places, each of which may have one
abbrev pub fields_at : List (Option FieldView) → List FieldView
fields_at [] = []
fields_at (None ∷ more) = fields_at more
fields_at (Some field ∷ more) = field ∷ fields_at more

-- none of these fields repeats one before it, or one of those that come before them all
abbrev pub AreApart : Graph → List FieldView → List FieldView → Type 0
AreApart graph before [] = Unit {0}
AreApart graph before (field ∷ fields) =
    (repeats graph before field ≡ false) × AreApart graph (before ++ field ∷ []) fields
