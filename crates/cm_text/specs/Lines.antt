-- The lines of a text of any bytes, as a file has it.
use Rattle.std.specs.Prelude.{ℕ, ◌≡◌, ◌<◌, ◌≤◌, ◌-◌, ◌==◌, Bool, false, List, [], ◌∷◌, ◌++◌, length, take, drop, slice_get, Option, None, Some, if◌then◌else◌}
use Rattle.std.specs.Option.{option_map_or}
use Rattle.cm_text.specs.declared.lines.LineEnd.{LineEnd}

-- a line that a carriage return ends has it no more
abbrev pub ends_in_return : List ℕ → Bool
ends_in_return line = option_map_or (λ (byte : ℕ). byte == 13) (slice_get line (length line - 1)) false

abbrev pub without_return : List ℕ → List ℕ
without_return line = if ends_in_return line then take (length line - 1) line else line

-- what is after the last line feed is a line too, where anything is
abbrev pub last_line : List ℕ → List (List ℕ)
last_line [] = []
last_line (byte ∷ line) = (byte ∷ line) ∷ []

-- the lines of these bytes, of which the first is begun: a line feed ends a line, and one carriage return before it is
-- none of the line's
abbrev pub lines_after : List ℕ → List ℕ → List (List ℕ)
lines_after begun [] = last_line begun
lines_after begun (byte ∷ bytes) =
    if byte == 10 then without_return begun ∷ lines_after [] bytes else lines_after (begun ++ byte ∷ []) bytes

-- the lines of a text
unfoldable pub lines : List ℕ → List (List ℕ)
lines bytes = lines_after [] bytes

-- where the first of the lines of some bytes ends, and where the next begins
pub record BeginsLine (bytes : List ℕ) (first : LineEnd) : Type 0 where
  pub line : lines bytes ≡ take first.end bytes ∷ lines (drop first.next bytes)
  pub end : first.end ≤ first.next
  pub some : 0 < first.next
  pub next : first.next ≤ length bytes

-- and there may be none
abbrev pub BeginsLines : List ℕ → Option LineEnd → Type 0
BeginsLines bytes None = lines bytes ≡ []
BeginsLines bytes (Some first) = BeginsLine bytes first
