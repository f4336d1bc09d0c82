-- The decimal digits of a generation mean it.
use Rattle.std.proofs.Common.{◌≡◌, ℕ, ◌<◌, ◌≤◌, true, false, ◌==◌, List, [], ◌∷◌, length, decimal, Some, arith}
use Rattle.std.specs.Char.{is_ascii_digit, to_ascii_lowercase}
use Rattle.std.specs.List.{list_all}
use Rattle.std.specs.Str.Parse.{digits_value}
use Rattle.std.proofs.lemmas.Bool.{and_parts}
use Rattle.std.proofs.lemmas.Bool.Decides.{nat_tests}
use Rattle.std.proofs.lemmas.Fmt.{decimal_is_IsNumeral}
use Rattle.cm_lists.proofs.Bools.{by_test}
use Rattle.cm_lists.proofs.Digits.{decimal_digits}
use Rattle.cm_tables.proofs.FoundLemmas.{lower_same}
use Rattle.cm_text.specs.Case.{equals}
use Rattle.cm_fields.specs.declared.value.Gen.TheVariants as generations
use Rattle.cm_files.specs.declared.generation.TheConstants.{GENERATION_LIMIT}
use Rattle.cm_files.specs.Spec.{generation_of, numbered}

-- digits are no text that begins with a mark
no_mark : (digit : ℕ) (text : List ℕ) (mark : ℕ) (rest : List ℕ) → is_ascii_digit digit ≡ true → mark < 48
    → equals (digit ∷ text) (mark ∷ rest) ≡ false
no_mark digit text mark rest is low =
    by_test _ (equals (digit ∷ text) (mark ∷ rest))
    (λ same.
    let letters = lower_same (digit ∷ text) (mark ∷ rest) same in
    let first : to_ascii_lowercase digit ≡ to_ascii_lowercase mark = cc in
    absurd (grind (arith, nat_tests)))
    (λ differs. differs)

digits_mean : (text : List ℕ) (n : ℕ) → 0 < length text → list_all is_ascii_digit text ≡ true → digits_value 10 text ≡ n
    → 0 < n → n ≤ GENERATION_LIMIT → generation_of text ≡ Some (generations.Number n)
unfolding generation_of
digits_mean [] n some all value low most = absurd (omega arith)
digits_mean (digit ∷ text) n some all value low most =
    let first = (and_parts (is_ascii_digit digit) (list_all is_ascii_digit text) all).0 in
    let star = no_mark digit text 42 [] first (omega arith) in
    let all_of = no_mark digit text 45 (51 ∷ []) first (omega arith) in
    let next = no_mark digit text 45 (49 ∷ []) first (omega arith) in
    let lowest = no_mark digit text 45 (50 ∷ []) first (omega arith) in
    let is_some : (length (digit ∷ text) == 0) ≡ false = grind (arith, nat_tests) in
    rw (is_some, star, all_of, next, lowest, all, value) (number_of n low most)
  where
    number_of : (n : ℕ) → 0 < n → n ≤ GENERATION_LIMIT → numbered n ≡ Some (generations.Number n)
    number_of n low most = grind (arith, nat_tests)

pub decimal_means : (n : ℕ) → 0 < n → n ≤ GENERATION_LIMIT → generation_of (decimal n) ≡ Some (generations.Number n)
decimal_means n low most =
    let numeral = decimal_is_IsNumeral n (omega arith) in
    digits_mean (decimal n) n numeral.0.0 (decimal_digits n (omega arith)) numeral.1 low most
