-- A function that takes one of some numbers takes what is typed and a space.
use Rattle.std.proofs.Common.{◌≡◌, ℕ, ◌+◌, ◌&&◌, ◌==◌, nat_lt, Bool, true, false, List, [], ◌∷◌, ◌++◌, length, Option, None, Some, Ok, Err}
use Rattle.std.specs.List.{list_all}
use Rattle.cm_lists.proofs.Bools.{cond_each}
use Rattle.cm_text.specs.Bytes.{is_word}
use Rattle.cm_fields.specs.declared.code.Code.TheVariants.{BadNumber, OutOfRange}
use Rattle.cm_fields.specs.declared.numbers.Numbers.{Numbers}
use Rattle.cm_fields.specs.declared.trial.Try.TheVariants.{More}
use Rattle.cm_fields.specs.declared.value.Value.TheVariants as values
use Rattle.cm_fields.specs.Numbers.{base}
use Rattle.cm_fields.specs.Numeral.{digits_say, is_digit_of, is_within, number_with, numeral, numeral_of, size_of, size_says}
use Rattle.cm_recognise.proofs.Plains.{EndsAt, IsOwnIfOk, run_ends, space_no_word}

size_own : (numbers : Numbers) (minus : Bool) (size : Option ℕ) → IsOwnIfOk (size_says numbers minus size)
size_own numbers minus None = tt
size_own numbers minus (Some size) =
    cond_each IsOwnIfOk (is_within numbers (number_with minus size)) (Ok (values.Integer (number_with minus size)))
    (Err (OutOfRange numbers)) tt tt

digits_own : (numbers : Numbers) (minus : Bool) (digits : List ℕ) → IsOwnIfOk (digits_say numbers minus digits)
digits_own numbers minus digits =
    cond_each IsOwnIfOk (nat_lt 0 (length digits) && list_all (is_digit_of numbers.radix) digits)
    (size_says numbers minus (size_of (base numbers.radix) digits)) (Err BadNumber)
    (size_own numbers minus (size_of (base numbers.radix) digits)) tt

numeral_own : (numbers : Numbers) (run : List ℕ) → IsOwnIfOk (numeral_of numbers run)
unfolding numeral_of
numeral_own numbers [] = tt
numeral_own numbers (byte ∷ digits) =
    cond_each IsOwnIfOk (byte == 45) _ (digits_say numbers false (byte ∷ digits))
    (cond_each IsOwnIfOk numbers.signed (digits_say numbers true digits) (Err BadNumber) (digits_own numbers true digits) tt)
    (digits_own numbers false (byte ∷ digits))

pub numeral_ends : (numbers : Numbers) (rest : List ℕ) (at : ℕ) → numeral numbers rest at ≡ More
    → EndsAt (at + length rest) (numeral numbers (rest ++ 32 ∷ []) at)
numeral_ends numbers rest at is =
    run_ends is_word (numeral_of numbers) rest at space_no_word (numeral_own numbers rest) is
