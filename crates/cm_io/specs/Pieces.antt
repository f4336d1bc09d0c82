-- Bytes that are put often.
use Rattle.std.specs.Prelude.{ℕ, zero, suc, ◌+◌, ◌/◌, ◌%◌, List, [], ◌∷◌, ◌++◌, nat_lt, if◌then◌else◌}
use Rattle.std.specs.List.{flat_map}
use Rattle.cm_text.specs.ScreenBytes.{end_of_line}

-- the lower-case hexadecimal digit of a number below 16
unfoldable pub hex_digit : ℕ → ℕ
hex_digit n = if nat_lt n 10 then 48 + n else 87 + n

-- the two hexadecimal digits of a byte
unfoldable pub hex : ℕ → List ℕ
hex byte = hex_digit (byte / 16) ∷ hex_digit (byte % 16) ∷ []

-- the piece, that many times
unfoldable pub times : ℕ → List ℕ → List ℕ
times zero piece = []
times (suc n) piece = times n piece ++ piece

-- lines, each with its end
abbrev pub shown_line : List ℕ → List ℕ
shown_line line = line ++ end_of_line

unfoldable pub shown_lines : List (List ℕ) → List ℕ
shown_lines lines = flat_map shown_line lines
