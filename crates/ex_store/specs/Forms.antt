-- The forms that a request for printing names.
use Rattle.std.specs.Prelude.{ℕ, zero, suc, List, codes}

-- the name of a form, by its number
abbrev pub form_text : ℕ → List ℕ
form_text zero = codes "NARROW"
form_text (suc zero) = codes "NORMAL"
form_text (suc (suc form)) = codes "WIDE"
