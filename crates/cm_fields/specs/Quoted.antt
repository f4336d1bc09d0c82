-- A quoted text (.CMQST): from a quote to a quote that no quote follows; a quote inside stands twice.
use Rattle.std.specs.Prelude.{ℕ, Bool, ◌+◌, ◌==◌, ◌&&◌, ◌||◌, ◌≤◌, nat_le, if◌then◌else◌, List, [], ◌∷◌}
use Rattle.cm_text.specs.declared.name.TheConstants.{NAME_LIMIT}
use Rattle.cm_text.specs.declared.text.TheConstants.{JOIN, LINE_LIMIT}
use Rattle.cm_fields.specs.declared.code.Code.TheVariants.{NotQuoted, NoQuote, FieldLong}
use Rattle.cm_fields.specs.declared.quotes.Closing.{Closing}
use Rattle.cm_fields.specs.declared.quotes.Closing.TheVariants.{Closed, Cut, Unknown}
use Rattle.cm_fields.specs.declared.trial.Try.{Try}
use Rattle.cm_fields.specs.declared.trial.Try.TheVariants.{Accept, Refuse, More}
use Rattle.cm_fields.specs.declared.value.Value.TheVariants.{Quoted}
use Rattle.cm_fields.specs.Try.{span}

-- the end of the line, or of a row of it that a join byte continues
abbrev pub is_cut : ℕ → Bool
is_cut byte = byte == 13 || byte == JOIN

-- how the text after the opening quote goes on, after so many bytes of it, which write so many: the closing
-- quote is there; the line or its row ends there; or the text ends before that is known
abbrev pub closing : ℕ → ℕ → List ℕ → Closing
closing size written [] = Unknown
closing size written (byte ∷ []) = if is_cut byte then Cut size else Unknown
closing size written (byte ∷ next ∷ more) =
    if is_cut byte then Cut size
    else (if byte == 34
    then (if next == 34 then closing (size + 2) (written + 1) more else Closed size written)
    else closing (size + 1) (written + 1) (next ∷ more))

-- what is found is within so many bytes
abbrev pub IsWithin : ℕ → Closing → Type 0
IsWithin most (Closed size written) = size + 2 ≤ most
IsWithin most (Cut size) = size + 1 ≤ most
IsWithin most Unknown = Unit {0}

-- the byte after the closing quote decides, of a text that writes at most so many bytes
abbrev pub by_closing_of : ℕ → ℕ → Closing → Try
by_closing_of limit at (Closed size written) =
    if nat_le written limit
    then Accept (Quoted (span (at + 1) size)) (size + 3) (at + (size + 2))
    else Refuse FieldLong (size + 3)
by_closing_of limit at (Cut size) = Refuse NoQuote (size + 2)
by_closing_of limit at Unknown = More

abbrev pub by_closing : ℕ → Closing → Try
by_closing at found = by_closing_of NAME_LIMIT at found

abbrev pub quoted_of : ℕ → List ℕ → ℕ → Try
quoted_of limit [] at = More
quoted_of limit (byte ∷ rest) at =
    if byte == 34 then by_closing_of limit at (closing 0 0 rest) else Refuse NotQuoted 1

-- [quoted-text]
abbrev pub quoted : List ℕ → ℕ → Try
quoted rest at = quoted_of NAME_LIMIT rest at

-- one as long as the line
abbrev pub long_quoted : List ℕ → ℕ → Try
long_quoted rest at = quoted_of LINE_LIMIT rest at

-- what is said by what is between the outer quotes: a quote that stands twice is one
abbrev pub unquoted : List ℕ → List ℕ
unquoted [] = []
unquoted (byte ∷ []) = byte ∷ []
unquoted (byte ∷ next ∷ more) =
    if byte == 34 && next == 34 then 34 ∷ unquoted more else byte ∷ unquoted (next ∷ more)
