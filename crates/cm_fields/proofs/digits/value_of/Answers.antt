use Rattle.std.proofs.Common.{◌≡◌, ℕ, ◌+◌, ◌-◌, ◌*◌, ◌<◌, true, List, Some, None, length, take, get_or, nat_le, if◌then◌else◌, arith}
use Rattle.std.specs.Char.{digit_value, is_ascii_digit}
use Rattle.std.specs.List.{list_all}
use Rattle.std.specs.Str.Parse.{digits_value}
use Rattle.std.proofs.lemmas.Bool.Decides.{nat_tests}
use Rattle.std.proofs.lemmas.Int.Digits.{digits_value_more}
use Rattle.std.proofs.lemmas.List.Folds.{list_all_at}
use Rattle.std.proofs.lemmas.Str.Parse.{digits_value-take-le}
use Rattle.cm_lists.proofs.Bools.{by_test}
use Rattle.cm_fields.proofs.digits.value_of.Goals as goal

digit_is : (byte : ℕ) → is_ascii_digit byte ≡ true → digit_value byte ≡ byte - 48
digit_is byte is = grind (arith, nat_tests)

one_digit_more : (digits : List ℕ) (index : ℕ) → index < length digits → list_all is_ascii_digit digits ≡ true
    → digits_value 10 (take (index + 1) digits) ≡ 10 * digits_value 10 (take index digits) + (get_or digits index 0 - 48)
one_digit_more digits index within are =
    let more = digits_value_more 10 digits index within in
    let digit : is_ascii_digit (get_or digits index 0) ≡ true =
    by_test _ (is_ascii_digit (get_or digits index 0)) (λ is. is) (λ other. let none = list_all_at is_ascii_digit digits index 0 within other in cc) in
    let value = digit_is (get_or digits index 0) digit in
    omega arith

too_large : (value most : ℕ) → most < value → None ≡ (if nat_le value most then Some value else None)
too_large value most large = grind (arith, nat_tests)

pub returns-then-value-most : goal.returns-then-value-most
returns-then-value-most c =
    let more = one_digit_more c.args.digits.now c.loop-digit.digit-index c.loop-digit-test.true c.requires.digits in
    let most = digits_value-take-le 10 c.args.digits.now (c.loop-digit.digit-index + 1) (omega arith) in
    too_large _ _ (omega arith)

pub loop-digit-preserved : goal.loop-digit-preserved
loop-digit-preserved c =
    let more = one_digit_more c.args.digits.now c.loop-digit.digit-index c.loop-digit-test.true c.requires.digits in
    record { value = omega arith; small = omega arith }
