-- Bytes that are shown as they are.
use Rattle.std.specs.Prelude.{ℕ, ◌==◌, Bool, List, [], ◌∷◌}
use Rattle.cm_text.specs.ScreenBytes.{printing_byte}

abbrev pub is_printing : ℕ → Bool
is_printing byte = printing_byte byte == byte

-- the first byte as it is shown, where there is one
abbrev pub first_shown : List ℕ → List ℕ
first_shown [] = []
first_shown (byte ∷ rest) = printing_byte byte ∷ []
