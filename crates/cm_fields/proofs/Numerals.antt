-- How a number is written in a radix, and the text that tells a range.
use Rattle.std.proofs.Common.{◌≡◌, ℕ, ℤ, ◌+◌, ◌*◌, ◌/◌, ◌%◌, ◌^◌, ◌<◌, ◌≤◌, ◌&&◌, ◌==◌, nat_le, nat_lt, Bool, true, false, List, [], ◌∷◌, ◌++◌, length, map, take, get_or, refl, sym, int_le, arith, codes, unsigned_abs, length-append, append_assoc, ap, ◌∙◌, if◌then◌else◌, None, Some}
use Rattle.std.specs.Char.{digit_value}
use Rattle.std.specs.Fmt.{digit_glyph, sign_text}
use Rattle.std.specs.Int.{is_negative}
use Rattle.std.specs.Int.Digits.{AllBelowBase, digits_of}
use Rattle.std.specs.List.{list_all}
use Rattle.std.specs.Str.Parse.{digits_value}
use Rattle.std.proofs.Math.Nat.{mul-le-mul}
use Rattle.std.proofs.lemmas.Bool.{and_from, and_parts}
use Rattle.std.proofs.lemmas.Bool.Decides.{nat_tests}
use Rattle.std.proofs.lemmas.Int.Digits.{all_below_base_digits_of, digits_of_step, digits_value_more, length-digits_of-le}
use Rattle.std.proofs.lemmas.List.{length-map, length-take, map-append}
use Rattle.std.proofs.lemmas.List.Folds.{list_all-append}
use Rattle.cm_lists.proofs.Bools.{cond_each}
use Rattle.cm_lists.proofs.Quantifiers.{all_take}
use Rattle.cm_text.specs.declared.name.TheConstants.{NAME_LIMIT}
use Rattle.cm_fields.specs.declared.digits.TheConstants.{NUMBER_LIMIT}
use Rattle.cm_fields.specs.Numbers.{base, is_in_limit, is_numbers, number_text, range_text, range_reason, size_text}
use Rattle.cm_fields.specs.Reason.{is_printing, is_reason_text}
use Rattle.cm_fields.specs.declared.numbers.Numbers.{Numbers}
use Rattle.cm_fields.specs.declared.numbers.Radix.{Radix}
use Rattle.cm_fields.specs.declared.numbers.Radix.TheVariants.{Octal, Decimal, Hexadecimal}

-- how long

text_of_few : (radix : Radix) (size most : ℕ) → 1 ≤ most → length (digits_of (base radix) size) ≤ most
    → length (size_text radix size) ≤ most
unfolding size_text
text_of_few radix size most some few =
    let same = length-map (digits_of (base radix) size) (digit_glyph true) in
    cond_each (λ (text : List ℕ). length text ≤ most) (size == 0) (48 ∷ []) _ some (omega (arith, few, same))

digits_fit : (radix : Radix) (size : ℕ) → size ≤ 2 ^ 63 → length (digits_of (base radix) size) ≤ 22
digits_fit Octal size small = length-digits_of-le 8 22 size (omega arith) (omega arith)
digits_fit Decimal size small = length-digits_of-le 10 22 size (omega arith) (omega arith)
digits_fit Hexadecimal size small = length-digits_of-le 16 22 size (omega arith) (omega arith)

pub size_fits : (radix : Radix) (size : ℕ) → size ≤ 2 ^ 63 → length (size_text radix size) ≤ 22
size_fits radix size small = text_of_few radix size 22 (omega arith) (digits_fit radix size small)

pub sign_fits : (minus : Bool) → length (sign_text minus) ≤ 1
sign_fits true = omega arith
sign_fits false = omega arith

-- that each byte prints

base_most : (radix : Radix) → base radix ≤ 16
base_most Octal = omega arith
base_most Decimal = omega arith
base_most Hexadecimal = omega arith

base_least : (radix : Radix) → 2 ≤ base radix
base_least Octal = omega arith
base_least Decimal = omega arith
base_least Hexadecimal = omega arith

glyph_prints : (digit : ℕ) → digit < 16 → is_printing (digit_glyph true digit) ≡ true
glyph_prints digit low = grind (arith, nat_tests)

digits_print : (most : ℕ) (digits : List ℕ) → most ≤ 16 → AllBelowBase most digits
    → list_all is_printing (map (digit_glyph true) digits) ≡ true
digits_print most [] low all = refl
digits_print most (digit ∷ digits) low all =
    and_from _ _ (glyph_prints digit (let below = all.0 in omega arith)) (digits_print most digits low all.1)

size_prints : (radix : Radix) (size : ℕ) → list_all is_printing (size_text radix size) ≡ true
unfolding size_text
size_prints radix size =
    cond_each (λ (text : List ℕ). list_all is_printing text ≡ true) (size == 0) (48 ∷ []) _ refl
    (digits_print (base radix) _ (base_most radix) (all_below_base_digits_of (base radix) size (base_least radix)))

sign_prints : (minus : Bool) → list_all is_printing (sign_text minus) ≡ true
sign_prints true = refl
sign_prints false = refl

-- two texts that print are one
print_both : (text more : List ℕ) → list_all is_printing text ≡ true → list_all is_printing more ≡ true
    → list_all is_printing (text ++ more) ≡ true
print_both text more first second = rw (list_all-append is_printing text more) (and_from _ _ first second)

number_prints : (radix : Radix) (number : ℤ) → list_all is_printing (number_text radix number) ≡ true
unfolding number_text
number_prints radix number =
    print_both (sign_text (is_negative number)) _ (sign_prints (is_negative number)) (size_prints radix (unsigned_abs number))

range_prints : (numbers : Numbers) → list_all is_printing (range_text numbers) ≡ true
unfolding range_text
range_prints numbers =
    let least = number_text numbers.radix numbers.least in
    print_both (codes "Must be " ++ least ++ codes " to ") _
    (print_both (codes "Must be " ++ least) _ (print_both (codes "Must be ") least refl (number_prints _ _)) refl)
    (number_prints _ _)

-- the text that tells a range is one that a screen may show

range_some : (numbers : Numbers) → 0 < length (range_text numbers)
unfolding range_text
range_some numbers = simp length-append (omega arith)

pub range_reason_shown : (numbers : Numbers) → is_reason_text (range_reason numbers) ≡ true
unfolding is_reason_text
range_reason_shown numbers =
    let size = length-take NAME_LIMIT (range_text numbers) in
    let some = range_some numbers in
    let least : nat_lt 0 (length (range_reason numbers)) ≡ true = grind (arith, nat_tests) in
    let most : nat_le (length (range_reason numbers)) NAME_LIMIT ≡ true = grind (arith, nat_tests) in
    and_from _ _ (and_from _ _ least most) (all_take is_printing NAME_LIMIT (range_text numbers) (range_prints numbers))

-- and it is whole where a field may be the numbers

digits_short : (radix : Radix) (size : ℕ) → size ≤ NUMBER_LIMIT → length (digits_of (base radix) size) ≤ 12
digits_short Octal size small = length-digits_of-le 8 12 size (omega arith) (omega arith)
digits_short Decimal size small = length-digits_of-le 10 12 size (omega arith) (omega arith)
digits_short Hexadecimal size small = length-digits_of-le 16 12 size (omega arith) (omega arith)

end_short : (radix : Radix) (number : ℤ) → is_in_limit number ≡ true → length (number_text radix number) ≤ 13
unfolding number_text
end_short radix number is =
    let small : unsigned_abs number ≤ NUMBER_LIMIT = grind (arith, nat_tests) in
    let size = text_of_few radix (unsigned_abs number) 12 (omega arith) (digits_short radix (unsigned_abs number) small) in
    let sign = sign_fits (is_negative number) in
    let whole = length-append (sign_text (is_negative number)) (size_text radix (unsigned_abs number)) in
    omega (arith, size, sign, whole)

pub range_fits : (numbers : Numbers) → is_numbers numbers ≡ true → length (range_text numbers) ≤ NAME_LIMIT
unfolding is_numbers range_text
range_fits numbers is =
    let parts = and_parts (is_in_limit numbers.least && is_in_limit numbers.most && int_le numbers.least numbers.most) _ is in
    let ends = and_parts (is_in_limit numbers.least && is_in_limit numbers.most) _ parts.0 in
    let each = and_parts (is_in_limit numbers.least) _ ends.0 in
    let least = end_short numbers.radix numbers.least each.0 in
    let most = end_short numbers.radix numbers.most each.1 in
    simp length-append (omega (arith, least, most))

-- the number that digits write, one digit after another

pub product_within : (size base : ℕ) → size ≤ NUMBER_LIMIT → base ≤ 16 → size * base ≤ NUMBER_LIMIT * 16
product_within size base small low = mul-le-mul small low

pub one_digit_more : (base : ℕ) (digits : List ℕ) (index size : ℕ) → index < length digits
    → size ≡ digits_value base (take index digits)
    → digits_value base (take (index + 1) digits) ≡ size * base + digit_value (get_or digits index 0)
one_digit_more base digits index size within is = rw is (digits_value_more base digits index within)

pub too_large : (size : ℕ) → NUMBER_LIMIT < size → None ≡ (if nat_le size NUMBER_LIMIT then Some size else None)
too_large size large = grind (arith, nat_tests)

-- the digits of a number are those of its front, and the last one
pub last_digit_more : (before : List ℕ) (base size : ℕ) → 2 ≤ base → 0 < size
    → (before ++ map (digit_glyph true) (digits_of base (size / base))) ++ digit_glyph true (size % base) ∷ []
    ≡ before ++ map (digit_glyph true) (digits_of base size)
last_digit_more before base size least some =
    append_assoc before (map (digit_glyph true) (digits_of base (size / base))) _
    ∙ ap (λ (it : List ℕ). before ++ it)
    (sym (map-append (digit_glyph true) (digits_of base (size / base)) (size % base ∷ []))
    ∙ ap (map (digit_glyph true)) (sym (digits_of_step base size least some)))
