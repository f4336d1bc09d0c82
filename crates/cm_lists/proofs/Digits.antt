-- The decimal digits of a number, and the number that digits write.
-- Of std's lemmas numerals_by_value gives the digits, by search rules, digits_value_short bounds a number, and
-- digits_decimal, digits_value-decimal and length-decimal-le read it back.
use Rattle.std.proofs.Common.{List, [], ap, arith, decimal, length, length-append, nat_lt, rules, true, ℕ, ◌%◌, ◌++◌, ◌+◌, ◌/◌, ◌<◌, ◌^◌, ◌∙◌, ◌∷◌, ◌≡◌, ◌≤◌}
use Rattle.std.specs.Char.{is_ascii_digit}
use Rattle.std.specs.List.{list_all}
use Rattle.std.specs.Str.Parse.{digits_value}
use Rattle.std.proofs.lemmas.Bool.{and_from}
use Rattle.std.proofs.lemmas.Bool.Decides.{nat_tests}
use Rattle.std.proofs.lemmas.Fmt.{decimal_by_steps, decimal_digit, decimal_nonempty, decimal_step, digits_decimal, digits_value-decimal, length-decimal-le}
use Rattle.std.proofs.lemmas.List.Folds.{list_all-append}
use Rattle.std.proofs.lemmas.Str.Parse.{IsNumeralModel, digits_value_short, numerals_by_value}
use Rattle.cm_lists.proofs.Bools.{by_test}

-- a number of 64 bits has at most 20 digits
pub decimal_fits : (n : ℕ) → n < 2 ^ 64 → length (decimal n) ≤ 20
decimal_fits n small = length-decimal-le 20 n (omega arith) (omega arith) small

-- the last digit is one more
pub length_decimal_step : (n : ℕ) → 10 ≤ n → n < 2 ^ 64 → length (decimal n) ≡ length (decimal (n / 10)) + 1
length_decimal_step n large small =
    ap length (decimal_step n large small) ∙ length-append (decimal (n / 10)) ((48 + n % 10) ∷ [])

pub decimal_of_two : (n : ℕ) → 10 ≤ n → n < 100 → decimal n ≡ (48 + n / 10) ∷ (48 + n % 10) ∷ []
decimal_of_two n large small = decimal_step n large (omega arith)
    ∙ ap (λ (front : List ℕ). front ++ (48 + n % 10) ∷ []) (decimal_digit (n / 10) (omega arith))

-- a number of 32 bits has at most 10 digits
pub decimal_fits_ten : (n : ℕ) → n < 2 ^ 32 → length (decimal n) ≤ 10
decimal_fits_ten n small = length-decimal-le 10 n (omega arith) (omega arith) (omega arith)

-- small numbers have few digits
pub decimal_fits_two : (n : ℕ) → n ≤ 99 → length (decimal n) ≤ 2
decimal_fits_two n small = length-decimal-le 2 n (omega arith) (omega arith) (omega arith)

pub decimal_fits_four : (n : ℕ) → n ≤ 9999 → length (decimal n) ≤ 4
decimal_fits_four n small = length-decimal-le 4 n (omega arith) (omega arith) (omega arith)

abbrev pub AreDigits : List ℕ → Type 0
AreDigits digits = list_all is_ascii_digit digits ≡ true

pub numerals : IsNumeralModel AreDigits (digits_value 10)
numerals = numerals_by_value AreDigits (search rules)

-- at most four digits write a number of at most four digits
pub value_of_four : (digits : List ℕ) → list_all is_ascii_digit digits ≡ true → length digits ≤ 4
    → digits_value 10 digits ≤ 9999
value_of_four digits are few = let small = digits_value_short numerals digits 4 are few in omega arith

-- and at most two one of at most two
pub value_of_two : (digits : List ℕ) → list_all is_ascii_digit digits ≡ true → length digits ≤ 2
    → digits_value 10 digits ≤ 99
value_of_two digits are few = let small = digits_value_short numerals digits 2 are few in omega arith

pub digit_of : (n : ℕ) → n < 10 → AreDigits ((48 + n) ∷ [])
digit_of n low = grind (arith, nat_tests)

pub digits_push : (n : ℕ) (text : List ℕ) → 10 ≤ n → AreDigits text → AreDigits (text ++ ((48 + n % 10) ∷ []))
digits_push n text high all =
    let last = digit_of (n % 10) (omega arith) in
    list_all-append is_ascii_digit text ((48 + n % 10) ∷ [])
    ∙ and_from (list_all is_ascii_digit text) (list_all is_ascii_digit ((48 + n % 10) ∷ [])) all last

pub decimal_digits : (n : ℕ) → n < 2 ^ 64 → list_all is_ascii_digit (decimal n) ≡ true
decimal_digits = decimal_by_steps (λ n text. AreDigits text) digit_of digits_push

-- the digits of a number below 10000, and that they write it
pub record IsWritten (n : ℕ) : Type 0 where
  pub digits : list_all is_ascii_digit (decimal n) ≡ true
  pub value : digits_value 10 (decimal n) ≡ n
  pub some : 0 < length (decimal n)

pub is_written : (n : ℕ) → n ≤ 9999 → IsWritten n
is_written n small = record {
  digits = digits_decimal numerals n (omega arith);
  value = digits_value-decimal numerals n (omega arith);
  some = decimal_nonempty n (omega arith);
}

-- a number from 1000 on has four of them
pub decimal_of_four : (n : ℕ) → 1000 ≤ n → n ≤ 9999 → length (decimal n) ≡ 4
decimal_of_four n large small =
    let written = is_written n small in
    let most = decimal_fits_four n small in
    by_test _ (nat_lt (length (decimal n)) 4)
    (λ few. let below = digits_value_short numerals (decimal n) 3 written.digits (grind (arith, nat_tests)) in
    absurd (omega (arith, written.value, below)))
    (λ all. grind (arith, nat_tests))
