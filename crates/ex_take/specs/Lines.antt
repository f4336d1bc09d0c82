-- The lines of a command file.
use Rattle.std.specs.Prelude.{ℕ, ◌&&◌, nat_le, Bool, List, [], ◌∷◌, ◌++◌, length, drop, Option, None, Some, if◌then◌else◌}
use Rattle.std.specs.List.{list_all}
use Rattle.cm_text.specs.Bytes.{is_line_byte}
use Rattle.cm_text.specs.Lines.{lines}
use Rattle.cm_text.specs.Text.{ends_in_hyphen, joined}
use Rattle.cm_text.specs.declared.text.TheConstants.{LINE_LIMIT}

-- a line and those after it: one that ends in a hyphen and is not the last is continued by the next, and goes on so
abbrev pub joined_after : List ℕ → List (List ℕ) → List (List ℕ)
joined_after line [] = line ∷ []
joined_after line (next ∷ others) =
    if ends_in_hyphen line then joined_after (joined line ++ next) others else line ∷ joined_after next others

-- [joined-line]
abbrev pub joined_lines : List (List ℕ) → List (List ℕ)
joined_lines [] = []
joined_lines (line ∷ others) = joined_after line others

-- the lines of a command file with these bytes. A line of a text has no line feed, so that each join byte in one of
-- these was made here
unfoldable pub file_lines : List ℕ → List (List ℕ)
file_lines bytes = joined_lines (lines bytes)

-- a line that can be parsed: text bytes and join bytes alone, and at most as many as a line has
abbrev pub is_line : List ℕ → Bool
is_line line = nat_le (length line) LINE_LIMIT && list_all is_line_byte line

-- a line that is read, and those from the place on where the next begins; none where none was left
abbrev pub lines_from : List ℕ → List ℕ → Option ℕ → List (List ℕ)
lines_from bytes line None = []
lines_from bytes line (Some next) = line ∷ file_lines (drop next bytes)

-- of the lines that are left the next: whether it can be parsed, and the line itself where it can
abbrev pub first_is_line : List (List ℕ) → Option Bool
first_is_line [] = None
first_is_line (line ∷ others) = Some (is_line line)

abbrev pub first_line : List (List ℕ) → Option (List ℕ)
first_line [] = None
first_line (line ∷ others) = if is_line line then Some line else None
