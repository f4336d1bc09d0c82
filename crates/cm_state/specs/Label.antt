-- A name in a prompt that is made at run time.
use Rattle.std.specs.Prelude.{ℕ, List, length, min, take}
use Rattle.cm_text.specs.Padding.{padded}
use Rattle.cm_text.specs.declared.name.TheConstants.{NAME_LIMIT}
use Rattle.cm_state.specs.declared.label.Label.{Label}

-- the label of a name: the zeros make it the only one
unfoldable pub label_of : List ℕ → Label
label_of name = record { cells = padded name; size = length name }

-- the name of a label
unfoldable pub label_name : Label → List ℕ
label_name label = take (min label.size NAME_LIMIT) label.cells
