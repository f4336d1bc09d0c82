-- What a screen is given.
use Rattle.std.specs.Prelude.{ℕ, ◌==◌, ◌&&◌, nat_le, if◌then◌else◌, List, [], ◌∷◌}
use Rattle.cm_text.specs.declared.text.TheConstants.{JOIN}

-- carriage return and line feed
unfoldable pub end_of_line : List ℕ
end_of_line = 13 ∷ 10 ∷ []

-- the bell, for a key that does nothing
unfoldable pub bell : List ℕ
bell = 7 ∷ []

-- back over a byte, a space over it, and back again
unfoldable pub rubout : List ℕ
rubout = 8 ∷ 32 ∷ 8 ∷ []

-- a question mark, before the reason of a refusal
unfoldable pub question : List ℕ
question = 63 ∷ []

-- how control-C is shown
unfoldable pub control_c : List ℕ
control_c = 94 ∷ 67 ∷ []

-- the hyphen that a join byte stands for, and the end of its row
unfoldable pub join_shown : List ℕ
join_shown = 45 ∷ end_of_line

-- a text byte: a TAB is shown as one space
abbrev pub screen_byte : ℕ → ℕ
screen_byte byte = if byte == 9 then 32 else byte

-- a byte of a line
unfoldable pub shown_byte : ℕ → List ℕ
shown_byte byte = if byte == JOIN then join_shown else screen_byte byte ∷ []

-- a byte of any text: one that does not print is shown as a dot
abbrev pub printing_byte : ℕ → ℕ
printing_byte byte = if nat_le 32 byte && nat_le byte 126 then byte else 46
