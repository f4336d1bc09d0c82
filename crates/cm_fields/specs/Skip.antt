-- Blanks and comments before a field. A comment goes from `!` to the next `!`, or from `;` or an unclosed `!`
-- to the end of the line.
use Rattle.std.specs.Prelude.{ℕ, ◌+◌, ◌==◌, Bool, if◌then◌else◌, List, [], ◌∷◌, drop, Option, Some, None}
use Rattle.cm_text.specs.Bytes.{is_blank}
use Rattle.cm_fields.specs.declared.skipped.Comment.{Comment}
use Rattle.cm_fields.specs.declared.skipped.Comment.TheVariants.{Outside, ToMark, ToEnd}

-- where the text goes on after a byte that is passed over; none where the byte is not passed
abbrev pub passed : Bool → Comment → ℕ → Option Comment
passed raw Outside byte =
    if is_blank byte then Some Outside
    else (if raw then None else (if byte == 33 then Some ToMark else (if byte == 59 then Some ToEnd else None)))
passed raw ToMark byte = if byte == 13 then None else (if byte == 33 then Some Outside else Some ToMark)
passed raw ToEnd byte = if byte == 13 then None else Some ToEnd

-- at the end of the text a comment has to be ended
abbrev pub ended : Comment → ℕ → Option ℕ
ended Outside at = Some at
ended ToMark at = None
ended ToEnd at = None

-- the place itself where its byte is not passed, else the later one
abbrev pub or_later : ℕ → Option Comment → (Comment → Option ℕ) → Option ℕ
or_later at None later = Some at
or_later at (Some comment) later = later comment

-- the first place whose byte is not passed, from a place on
abbrev pub skip_from : Bool → Comment → ℕ → List ℕ → Option ℕ
skip_from raw comment at [] = ended comment at
skip_from raw comment at (byte ∷ rest) =
    or_later at (passed raw comment byte) (λ next. skip_from raw next (at + 1) rest)

-- [blank] the first place past blanks and, unless they are plain bytes here, comments; none where a comment is not
-- ended
abbrev pub skip : Bool → List ℕ → ℕ → Option ℕ
skip raw text at = skip_from raw Outside at (drop at text)
