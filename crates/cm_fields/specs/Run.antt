-- Numbers and words, each a run of word bytes (.CMNUM, .CMFLD), and runs of other bytes (.CMFLD with .CMBRK).
use Rattle.std.specs.Prelude.{ℕ, Bool, not, ◌&&◌, ◌==◌, nat_lt, nat_le, if◌then◌else◌, List, length, Result, Ok, Err}
use Rattle.std.specs.Char.{is_ascii_digit}
use Rattle.std.specs.List.{list_all}
use Rattle.std.specs.Str.Parse.{digits_value}
use Rattle.cm_text.specs.Bytes.{is_word}
use Rattle.cm_text.specs.ByteSets.{has_byte}
use Rattle.cm_text.specs.declared.name.TheConstants.{NAME_LIMIT}
use Rattle.cm_text.specs.declared.text.TheConstants.{JOIN}
use Rattle.cm_fields.specs.declared.digits.TheConstants.{NUMBER_LIMIT}
use Rattle.cm_fields.specs.declared.code.Code.{Code}
use Rattle.cm_fields.specs.declared.code.Code.TheVariants.{BadNumber, NumberRange, NoField, FieldLong}
use Rattle.cm_fields.specs.declared.trial.Try.{Try}
use Rattle.cm_fields.specs.declared.value.Value.{Value}
use Rattle.cm_fields.specs.declared.value.Value.TheVariants.{Number, Word}
use Rattle.cm_fields.specs.Try.{by_run, span}

-- digits alone, at least one, of a value that is not too large
unfoldable pub number_of : List ℕ → Result Value Code
number_of run =
    if nat_lt 0 (length run) && list_all is_ascii_digit run
    then (if nat_le (digits_value 10 run) NUMBER_LIMIT then Ok (Number (digits_value 10 run)) else Err NumberRange)
    else Err BadNumber

abbrev pub number : List ℕ → ℕ → Try
number rest at = by_run is_word number_of rest at

-- at least one byte and not too many, from this place on
unfoldable pub word_of : ℕ → List ℕ → Result Value Code
word_of at run =
    if length run == 0 then Err NoField
    else (if nat_le (length run) NAME_LIMIT then Ok (Word (span at (length run))) else Err FieldLong)

abbrev pub word : List ℕ → ℕ → Try
word rest at = by_run is_word (word_of at) rest at

-- no byte of a set ends a line, continues it, or asks for help, so that a field may have each
abbrev pub may_be_field : ℕ → Bool
may_be_field set = not (has_byte set 13) && not (has_byte set JOIN) && not (has_byte set 63)

-- at least one byte, from this place on
unfoldable pub run_of : ℕ → List ℕ → Result Value Code
run_of at run = if length run == 0 then Err NoField else Ok (Word (span at (length run)))

-- a run of the bytes of a set
abbrev pub run_field : ℕ → List ℕ → ℕ → Try
run_field set rest at = by_run (has_byte set) (run_of at) rest at
