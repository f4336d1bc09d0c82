-- What a label holds.
use Rattle.std.proofs.Common.{◌≡◌, ◌≤◌, ℕ, List, ◌++◌, length, take, replicate, ap, ◌∙◌}
use Rattle.std.proofs.Math.Nat.{min-eq_left}
use Rattle.std.proofs.Math.Seq.{take-append_seam}
use Rattle.std.specs.Prelude.{◌-◌}
use Rattle.cm_text.specs.declared.name.TheConstants.{NAME_LIMIT}
use Rattle.cm_state.specs.Label.{label_name, label_of}

-- [prompt] the label of a name has that name
pub label_has_name : (name : List ℕ) → length name ≤ NAME_LIMIT → label_name (label_of name) ≡ name
unfolding label_name label_of
label_has_name name fits =
    ap (λ (size : ℕ). take size (name ++ replicate (NAME_LIMIT - length name) 0)) (min-eq_left fits)
    ∙ take-append_seam name (replicate (NAME_LIMIT - length name) 0)
