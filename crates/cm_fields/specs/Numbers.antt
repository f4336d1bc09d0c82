-- Which numbers a field may be, and how a number is written in a radix.
use Rattle.std.specs.Prelude.{ℕ, ℤ, ◌==◌, ◌&&◌, ◌||◌, not, nat_le, int_le, if◌then◌else◌, true, Bool, List, [], ◌∷◌, ◌++◌, map, take, codes, unsigned_abs}
use Rattle.std.specs.Fmt.{digit_glyph, sign_text}
use Rattle.std.specs.Int.{is_negative}
use Rattle.std.specs.Int.Digits.{digits_of}
use Rattle.cm_text.specs.declared.name.TheConstants.{NAME_LIMIT}
use Rattle.cm_fields.specs.declared.digits.TheConstants.{NUMBER_LIMIT}
use Rattle.cm_fields.specs.declared.numbers.Numbers.{Numbers}
use Rattle.cm_fields.specs.declared.numbers.Radix.{Radix}
use Rattle.cm_fields.specs.declared.numbers.Radix.TheVariants.{Octal, Decimal, Hexadecimal}

abbrev pub base : Radix → ℕ
base Octal = 8
base Decimal = 10
base Hexadecimal = 16

-- at most 35 bits, and a sign
abbrev pub is_in_limit : ℤ → Bool
is_in_limit number = nat_le (unsigned_abs number) NUMBER_LIMIT

-- a range that is within this limit and not empty, and has no number below 0 where there is no sign
unfoldable pub is_numbers : Numbers → Bool
is_numbers numbers =
    is_in_limit numbers.least && is_in_limit numbers.most && int_le numbers.least numbers.most
    && (numbers.signed || not (is_negative numbers.least))

-- a number without its sign: no zero is before it, and letters are in upper case
unfoldable pub size_text : Radix → ℕ → List ℕ
size_text radix size = if size == 0 then 48 ∷ [] else map (digit_glyph true) (digits_of (base radix) size)

-- a number, after a minus where it is below 0
unfoldable pub number_text : Radix → ℤ → List ℕ
number_text radix number = sign_text (is_negative number) ++ size_text radix (unsigned_abs number)

-- what a number outside of a range is told
unfoldable pub range_text : Numbers → List ℕ
range_text numbers =
    codes "Must be " ++ number_text numbers.radix numbers.least
    ++ codes " to " ++ number_text numbers.radix numbers.most

-- as much of it as a screen may show, which is all for numbers that a field may be
abbrev pub range_reason : Numbers → List ℕ
range_reason numbers = take NAME_LIMIT (range_text numbers)
