-- Where a part of a line is cut off, and what a numeral writes.
use Rattle.std.proofs.Common.{◌≡◌, ℕ, ◌+◌, ◌-◌, ◌<◌, ◌≤◌, ◌==◌, Bool, true, not, ◌||◌, nat_le, nat_lt, get_or, List, length, take, drop, Ok, Err, sym, ap, ◌∙◌, length-drop, arith}
use Rattle.std.specs.Char.{is_ascii_digit}
use Rattle.std.specs.List.{before_first, list_all, list_any, position_or_len}
use Rattle.std.specs.Str.Parse.{digits_value}
use Rattle.std.proofs.lemmas.Bool.{and_parts}
use Rattle.std.proofs.lemmas.Bool.Decides.{nat_tests}
use Rattle.std.proofs.lemmas.List.{drop-drop, take_rest}
use Rattle.std.proofs.lemmas.List.Folds.{list_any_at}
use Rattle.std.proofs.lemmas.List.Sums.{passes_at_first}
use Rattle.std.proofs.lemmas.Str.Parse.{digits_value_short}
use Rattle.cm_lists.proofs.Digits.{numerals}
use Rattle.cm_lists.proofs.Positions.{none_any}
use Rattle.cm_fields.specs.declared.digits.TheConstants.{NUMBER_LIMIT}
use Rattle.cm_io.specs.declared.status.Kind.{Kind}
use Rattle.ex_image.specs.Fields.{cut, is_numeral}

-- nothing is cut off where nothing is left from the first such byte on
pub cut_none : (byte : ℕ) (kind : Kind) (bytes rest : List ℕ)
    → rest ≡ drop (position_or_len (λ b. b == byte) bytes) bytes → length rest < 1 → cut byte kind bytes ≡ Err kind
unfolding cut
cut_none byte kind bytes rest is none =
    let test : ℕ → Bool = λ b. b == byte in
    let size : length rest ≡ length bytes - position_or_len test bytes =
    ap length is ∙ length-drop (position_or_len test bytes) bytes in
    rw (none_any test bytes (omega arith))

-- what is cut off where that byte and more is left
pub cut_some : (byte : ℕ) (kind : Kind) (bytes front rest : List ℕ) → front ≡ before_first (λ b. b == byte) bytes
    → rest ≡ drop (position_or_len (λ b. b == byte) bytes) bytes → 1 ≤ length rest
    → cut byte kind bytes ≡ Ok (front, take (length rest - 1) (drop 1 rest))
unfolding cut
cut_some byte kind bytes front rest before is some =
    let test : ℕ → Bool = λ b. b == byte in
    let at : ℕ = position_or_len test bytes in
    let size : length rest ≡ length bytes - at = ap length is ∙ length-drop at bytes in
    let within : at < length bytes = omega arith in
    let found : list_any test bytes ≡ true = list_any_at test bytes at 0 within (passes_at_first test bytes 0 within) in
    let after : drop (at + 1) bytes ≡ take (length rest - 1) (drop 1 rest) =
    sym (take_rest rest 1 ∙ ap (drop 1) is ∙ drop-drop 1 at bytes) in
    rw (found, ← before, after)

-- ten digits write a number that fits
pub numeral_within : (digits : List ℕ) → is_numeral digits ≡ true → digits_value 10 digits ≤ NUMBER_LIMIT
numeral_within digits is =
    let first = and_parts _ (length digits == 1 || not (get_or digits 0 0 == 48)) is in
    let second = and_parts _ (list_all is_ascii_digit digits) first.0 in
    let few = and_parts (nat_lt 0 (length digits)) (nat_le (length digits) 10) second.0 in
    let small = digits_value_short numerals digits 10 second.1 (grind (arith, nat_tests)) in
    omega arith
