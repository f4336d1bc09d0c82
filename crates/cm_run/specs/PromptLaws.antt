-- Prompts that are printed bytes.
use Rattle.std.proofs.Common.{◌≡◌, ◌≤◌, ℕ, Bool, true, false, List, [], ◌∷◌, ◌++◌, length, refl, subst₂, sym}
use Rattle.std.specs.Prelude.{if◌then◌else◌, None, Some}
use Rattle.std.specs.List.{list_all}
use Rattle.std.proofs.lemmas.Bool.{and_parts}
use Rattle.cm_text.specs.declared.name.TheConstants.{NAME_LIMIT}
use Rattle.cm_io.specs.Display.{ArePrinted, is_printed}
use Rattle.cm_state.specs.Echo.{prompt_text}
use Rattle.cm_state.specs.Label.{label_of}
use Rattle.cm_state.specs.LabelLaws.{label_has_name}
use Rattle.cm_state.specs.declared.prompt.Prompt.TheVariants.{Main, Named}
use Rattle.cm_run.specs.LineSemantics.{HasPrinted}

-- `@` at each line, until the program has ended
pub main_until : (over : Bool) (node : ℕ) → HasPrinted (if over then None else Some (node, Main))
unfolding prompt_text is_printed
main_until true node = tt
main_until false node = (refl, tt)

printed : (text : List ℕ) → list_all is_printed text ≡ true → ArePrinted text
printed [] all = tt
printed (byte ∷ more) all = let parts = and_parts _ _ all in (parts.0, printed more parts.1)

-- a name and what follows it, each of at most 39 bytes
pub named_printed : (name after : List ℕ) → length name ≤ NAME_LIMIT → length after ≤ NAME_LIMIT
    → list_all is_printed (name ++ after) ≡ true → ArePrinted (prompt_text (Named (label_of name) (label_of after)))
unfolding prompt_text
named_printed name after short fits all =
    subst₂ (λ (front rest : List ℕ). ArePrinted (front ++ rest)) (sym (label_has_name name short))
    (sym (label_has_name after fits)) (printed (name ++ after) all)
