-- What a field said.
use Rattle.std.specs.Prelude.{ℕ, if◌then◌else◌, List, [], slice_get, unwrap_or, Option, Some, None, option_and_then}
use Rattle.std.specs.Option.{option_map_or}
use Rattle.cm_fields.specs.declared.value.Span.{Span}
use Rattle.cm_fields.specs.declared.value.Value.{Value}
use Rattle.cm_fields.specs.declared.value.Value.TheVariants as values
use Rattle.cm_files.specs.Spec.{part}
use Rattle.cm_blocks.specs.declared.node.Node.{Node}
use Rattle.cm_blocks.specs.Grammar.{Graph}
use Rattle.cm_blocks.specs.FieldView.{FieldView}

-- the node whose chain took a field
abbrev pub node_of : Graph → FieldView → Option Node
node_of graph field = slice_get graph.nodes field.node

-- the text that stands for it where the line ends before it: the default of its node
abbrev pub default_of : Graph → FieldView → List ℕ
default_of graph field = unwrap_or (option_and_then (λ node. node.default) (node_of graph field)) []

-- the text that it is a part of, in a line of this text: that, or the default
abbrev pub said_of : Graph → List ℕ → FieldView → List ℕ
said_of graph text field = if field.defaulted then default_of graph field else text

-- the place of a value that is a part of a text
abbrev pub span_of : Value → Option Span
span_of (values.Word span) = Some span
span_of (values.Quoted span) = Some span
span_of (values.Text span) = Some span
span_of (values.NewDirectory span) = Some span
span_of value = None

-- its bytes in the text that it is a part of: those of its value; of a value that is no part of a text, those of the
-- field, or the whole default
abbrev pub said_in : List ℕ → FieldView → List ℕ
said_in whole field =
    option_map_or (λ (span : Span). part whole span) (span_of field.value)
    (if field.defaulted then whole else part whole (record { start = field.start; end = field.end }))

-- [field-text] what a field of a line of this text said
abbrev pub said : Graph → List ℕ → FieldView → List ℕ
said graph text field = said_in (said_of graph text field) field
