-- One of some numbers, in a radix (.CMNUM).
use Rattle.std.specs.Prelude.{ℕ, ℤ, pos, neg_ℤ, Bool, true, false, ◌&&◌, ◌==◌, nat_lt, nat_le, int_le, if◌then◌else◌, List, [], ◌∷◌, length, Option, None, Some, Result, Ok, Err}
use Rattle.std.specs.Char.{digit_value}
use Rattle.std.specs.List.{list_all}
use Rattle.std.specs.Str.Parse.{digits_value}
use Rattle.cm_text.specs.Bytes.{is_word}
use Rattle.cm_fields.specs.declared.digits.TheConstants.{NUMBER_LIMIT}
use Rattle.cm_fields.specs.declared.code.Code.{Code}
use Rattle.cm_fields.specs.declared.code.Code.TheVariants.{BadNumber, OutOfRange}
use Rattle.cm_fields.specs.declared.numbers.Numbers.{Numbers}
use Rattle.cm_fields.specs.declared.numbers.Radix.{Radix}
use Rattle.cm_fields.specs.declared.trial.Try.{Try}
use Rattle.cm_fields.specs.declared.value.Value.{Value}
use Rattle.cm_fields.specs.declared.value.Value.TheVariants.{Integer}
use Rattle.cm_fields.specs.Numbers.{base}
use Rattle.cm_fields.specs.Try.{by_run}

-- a digit of a radix; letters have no case
abbrev pub is_digit_of : Radix → ℕ → Bool
is_digit_of radix byte = nat_lt (digit_value byte) (base radix)

-- the number of a sign and a size
abbrev pub number_with : Bool → ℕ → ℤ
number_with minus size = if minus then neg_ℤ (pos size) else pos size

abbrev pub is_within : Numbers → ℤ → Bool
is_within numbers number = int_le numbers.least number && int_le number numbers.most

-- what a sign and a size say, where the size is not too large
abbrev pub size_says : Numbers → Bool → Option ℕ → Result Value Code
size_says numbers minus None = Err (OutOfRange numbers)
size_says numbers minus (Some size) =
    if is_within numbers (number_with minus size) then Ok (Integer (number_with minus size))
    else Err (OutOfRange numbers)

-- the number that digits write, unless it is above the last number
abbrev pub size_of : ℕ → List ℕ → Option ℕ
size_of base digits =
    if nat_le (digits_value base digits) NUMBER_LIMIT then Some (digits_value base digits) else None

-- what digits say after a minus, or after none: at least one, and nothing else
abbrev pub digits_say : Numbers → Bool → List ℕ → Result Value Code
digits_say numbers minus digits =
    if nat_lt 0 (length digits) && list_all (is_digit_of numbers.radix) digits
    then size_says numbers minus (size_of (base numbers.radix) digits) else Err BadNumber

-- a minus may stand first where the numbers are signed
unfoldable pub numeral_of : Numbers → List ℕ → Result Value Code
numeral_of numbers [] = digits_say numbers false []
numeral_of numbers (byte ∷ digits) =
    if byte == 45 then (if numbers.signed then digits_say numbers true digits else Err BadNumber)
    else digits_say numbers false (byte ∷ digits)

abbrev pub numeral : Numbers → List ℕ → ℕ → Try
numeral numbers rest at = by_run is_word (numeral_of numbers) rest at
