-- The line of a finished text.
use Rattle.std.specs.Prelude.{ℕ, ◌-◌, List, length, take}

-- the text without its last byte
abbrev pub line_of : List ℕ → List ℕ
line_of text = take (length text - 1) text
