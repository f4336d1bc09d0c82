-- [label] The index of labels.
-- The index is made from the last line to the first; its invariant, position_from with the place as its first number,
-- closes alone.
use Rattle.std.proofs.Common.{◌≡◌, ℕ, List, Some, ap, ◌∙◌}
use Rattle.std.specs.Prelude.{false, Option, if◌then◌else◌}
use Rattle.std.specs.Map.{lookup}
use Rattle.std.specs.Option.{option_map_or}
use Rattle.std.specs.Str.{bytes_eq}
use Rattle.cm_text.specs.Case.{equals}
use Rattle.ex_batch.specs.Labels.{has_label, kept, label_of}

-- a label is at its place now, and each other where it stood
pub one_noted : (line label name : List ℕ) (place : ℕ) (old new : List (List ℕ × ℕ)) → Some label ≡ label_of line
    → lookup (bytes_eq (kept name)) new
    ≡ (if bytes_eq (kept label) (kept name) then Some place else lookup (bytes_eq (kept name)) old)
    → lookup (bytes_eq (kept name)) new
    ≡ (if has_label name line then Some place else lookup (bytes_eq (kept name)) old)
unfolding equals
one_noted line label name place old new is updates =
    updates
    ∙ ap (λ (it : Option (List ℕ)). if option_map_or (λ (other : List ℕ). equals other name) it false then Some place else lookup (bytes_eq (kept name)) old) is
