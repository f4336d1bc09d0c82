-- Lines and texts: a text is a line, or a line and the carriage return that finished it (COMND's text
-- buffer).
use Rattle.std.specs.Prelude.{ℕ, ◌≡◌, ◌≤◌, ◌-◌, ◌==◌, Bool, true, false, List, [], ◌∷◌, ◌++◌, length, take, slice_get}
use Rattle.std.specs.List.{AllByRecursion}
use Rattle.std.specs.Option.{option_map_or}
use Rattle.cm_text.specs.Bytes.{is_line_byte}
use Rattle.cm_text.specs.declared.text.TheConstants.{JOIN, LINE_LIMIT}

-- text bytes and join bytes alone, and at most as many as a line has
pub record IsLine (bytes : List ℕ) : Type 0 where
  pub short : length bytes ≤ LINE_LIMIT
  pub plain : AllByRecursion (λ byte. is_line_byte byte ≡ true) bytes

-- the line, finished
abbrev pub finished : List ℕ → List ℕ
finished line = line ++ 13 ∷ []

-- the last byte is a hyphen, so that a carriage return continues the line
abbrev pub ends_in_hyphen : List ℕ → Bool
ends_in_hyphen line = option_map_or (λ (byte : ℕ). byte == 45) (slice_get line (length line - 1)) false

-- the line, continued: the join byte is in the place of the hyphen
abbrev pub joined : List ℕ → List ℕ
joined line = take (length line - 1) line ++ JOIN ∷ []
