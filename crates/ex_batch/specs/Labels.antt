-- Where the labels of a control file stand.
use Rattle.std.specs.Prelude.{◌≡◌, ℕ, Bool, false, List, Option, None, Some, map}
use Rattle.std.specs.Char.{to_ascii_lowercase}
use Rattle.std.specs.List.{position_from}
use Rattle.std.specs.Map.{lookup}
use Rattle.std.specs.Option.{option_map_or}
use Rattle.std.specs.Str.{bytes_eq}
use Rattle.cm_text.specs.Case.{equals}
use Rattle.ex_batch.specs.Control.{Control, Condition, Label, Nothing, Plain, control_of}

-- the name that a line has, where it is a label
abbrev pub label_in : Control → Option (List ℕ)
label_in Nothing = None
label_in (Condition error order) = None
label_in (Label name) = Some name
label_in (Plain order) = None

unfoldable pub label_of : List ℕ → Option (List ℕ)
label_of line = label_in (control_of line)

-- a line is the label with this name, with no regard to the case of letters
abbrev pub has_label : List ℕ → List ℕ → Bool
has_label name line = option_map_or (λ (label : List ℕ). equals label name) (label_of line) false

-- [label] the place of the first line that is this label
unfoldable pub place_of : List ℕ → List (List ℕ) → Option ℕ
place_of name lines = position_from (has_label name) 0 lines

-- a name as labels are kept under: in lower case
abbrev pub kept : List ℕ → List ℕ
kept name = map to_ascii_lowercase name

-- the places that are kept under each name are those of the first lines that are that label, of the lines from a place
-- on
abbrev pub IsIndexFrom : ℕ → List (List ℕ × ℕ) → List (List ℕ) → Type 0
IsIndexFrom place entries lines =
    (name : List ℕ) → lookup (bytes_eq (kept name)) entries ≡ position_from (has_label name) place lines

unfoldable pub IsIndex : List (List ℕ × ℕ) → List (List ℕ) → Type 0
IsIndex entries lines = IsIndexFrom 0 entries lines
