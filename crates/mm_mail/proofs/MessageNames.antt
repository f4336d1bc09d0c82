-- The names of the files of messages, and their numbers.
-- A message is found by the number in its name: one lemma over four digits (number_of_name).
use Rattle.std.proofs.Common.{◌≡◌, ℕ, ◌+◌, ◌*◌, ◌/◌, ◌%◌, ◌<◌, ◌≤◌, ◌==◌, ◌&&◌, nat_eq, Bool, true, false, not, inr, if◌then◌else◌, nat_le, List, [], ◌∷◌, ◌++◌, Option, None, Some, length, take, refl, ap, sym, subst, cond, ◌∙◌, arith, eq-eqb}
use Rattle.std.specs.Char.{digit_value, is_ascii_digit, is_ascii_lowercase}
use Rattle.std.specs.Int.{IsInRange}
use Rattle.std.specs.List.{list_all, list_any, starts_with}
use Rattle.std.specs.Str.{bytes_eq}
use Rattle.std.specs.Str.Parse.{digits_value}
use Rattle.std.proofs.lemmas.Bool.{and_from, and_parts, eqb-true, le-leb, or_parts}
use Rattle.std.proofs.lemmas.Bool.Decides.{nat_tests}
use Rattle.std.proofs.lemmas.List.{take-append-drop}
use Rattle.std.proofs.lemmas.Str.{digit_value_digit}
use Rattle.cm_lists.proofs.Bools.{or_from_either, same_truth}
use Rattle.cm_lists.proofs.Digits.{value_of_four}
use Rattle.cm_lists.proofs.Texts.{bytes_eq-true, bytes_eq_itself}
use Rattle.cm_text.specs.Bytes.{is_name, is_word}
use Rattle.cm_fields.specs.Phrase.{same_letter}
use Rattle.cm_files.specs.Catalogue.{is_upper_name}
use Rattle.cm_files.specs.Pattern.{is_wild, matches, one_and, some_end, stands_for}
use Rattle.ex_commands.proofs.Single.{one_name}
use Rattle.mm_mail.specs.declared.message_name.TheConstants.{MOST_MESSAGES}
use Rattle.mm_mail.specs.MessageName.{digit, digits_of, four_digits, is_message_name, message_name, name_number, prefix}

-- what a name of a message has
record IsMessage (name : List ℕ) : Type 0 where
  front : bytes_eq (take 4 name) prefix ≡ true
  four : length (digits_of name) ≡ 4
  digits : list_all is_ascii_digit (digits_of name) ≡ true

message_parts : (name : List ℕ) → is_message_name name ≡ true → IsMessage name
message_parts name is =
    let both = and_parts (bytes_eq (take 4 name) prefix && length (digits_of name) == 4) (list_all is_ascii_digit (digits_of name)) is in
    let one = and_parts (bytes_eq (take 4 name) prefix) (length (digits_of name) == 4) both.0 in
    record { front = one.0; four = eqb-true (length (digits_of name)) 4 one.1; digits = both.1 }

-- how it is told
pub is_tested : (name front digits : List ℕ) (starts are : Bool) → front ≡ prefix → digits ≡ digits_of name
    → starts ≡ starts_with nat_eq name front → starts ≡ true → length digits ≡ 4 → are ≡ list_all is_ascii_digit digits
    → are ≡ is_message_name name
unfolding prefix
is_tested name front digits starts are is after told passes four all =
    let same : bytes_eq prefix (take 4 name) ≡ true = subst (λ (text : List ℕ). starts_with nat_eq name text ≡ true) is (sym told ∙ passes) in
    let here : bytes_eq (take 4 name) prefix ≡ true = ap (λ (text : List ℕ). bytes_eq text prefix) (sym (bytes_eq-true prefix (take 4 name) same)) in
    let long : (length (digits_of name) == 4) ≡ true = eq-eqb _ 4 (ap length (sym after) ∙ four) in
    all ∙ ap (list_all is_ascii_digit) after
    ∙ ap (λ (first : Bool). first && list_all is_ascii_digit (digits_of name)) (sym (and_from _ _ here long))

-- its number has at most four digits
pub number_few : (name : List ℕ) → is_message_name name ≡ true → name_number name ≤ MOST_MESSAGES
number_few name is =
    let parts = message_parts name is in
    value_of_four (digits_of name) parts.digits (omega (arith, parts.four))

-- so it is told
pub is_told : (name digits : List ℕ) (told : Option ℕ) → is_message_name name ≡ true → digits ≡ digits_of name
    → told ≡ (if nat_le (digits_value 10 digits) MOST_MESSAGES then Some (digits_value 10 digits) else None) → told ≡ None → 0 ≡ name_number name
is_told name digits told is after tells none =
    let few : digits_value 10 digits ≤ MOST_MESSAGES = subst (λ (each : List ℕ). digits_value 10 each ≤ MOST_MESSAGES) (sym after) (number_few name is) in
    let some : told ≡ Some (digits_value 10 digits) =
    tells ∙ ap (λ (low : Bool). cond low (Some (digits_value 10 digits)) None) (le-leb (digits_value 10 digits) MOST_MESSAGES few) in
    cc

-- a digit has the value that it is made of
value_of_digit : (number : ℕ) → digit_value (digit number) ≡ number % 10
value_of_digit number =
    let is = digit_value_digit (digit number) (omega arith, omega arith) in
    omega arith

-- the last four digits of a number below 10000 are the number
four_parts : (number : ℕ) → number ≤ 9999
    → (((number / 1000) % 10 * 10 + (number / 100) % 10) * 10 + (number / 10) % 10) * 10 + number % 10 ≡ number
four_parts number small = omega arith

value_of_four_digits : (number : ℕ) → number ≤ 9999 → digits_value 10 (four_digits number) ≡ number
value_of_four_digits number small =
    omega (
      arith,
      four_parts number small,
      value_of_digit (number / 1000),
      value_of_digit (number / 100),
      value_of_digit (number / 10),
      value_of_digit number,
    )

-- the name of a message is one of a message, of its number
digit_is : (number : ℕ) → is_ascii_digit (digit number) ≡ true
digit_is number = grind (arith, nat_tests)

digits_are : (number : ℕ) → list_all is_ascii_digit (four_digits number) ≡ true
digits_are number =
    and_from _ _ (digit_is (number / 1000)) (and_from _ _ (digit_is (number / 100))
    (and_from _ _ (digit_is (number / 10)) (and_from _ true (digit_is number) refl)))

pub is_message : (number : ℕ) → is_message_name (message_name number) ≡ true
unfolding prefix
is_message number = digits_are number

pub number_of_name : (number : ℕ) → number ≤ MOST_MESSAGES → name_number (message_name number) ≡ number
unfolding prefix
number_of_name number small = value_of_four_digits number small

-- and it is the only one
record AreDigits (p q r s number : ℕ) : Type 0 where
  first : (number / 1000) % 10 ≡ p
  second : (number / 100) % 10 ≡ q
  third : (number / 10) % 10 ≡ r
  fourth : number % 10 ≡ s

digits_back : (p q r s : ℕ) → p < 10 → q < 10 → r < 10 → s < 10 → AreDigits p q r s (((p * 10 + q) * 10 + r) * 10 + s)
digits_back p q r s a b c d = record { first = omega arith; second = omega arith; third = omega arith; fourth = omega arith }

record IsDigit (byte : ℕ) : Type 0 where
  value : digit_value byte + 48 ≡ byte
  low : digit_value byte < 10

is_digit : (byte : ℕ) → is_ascii_digit byte ≡ true → IsDigit byte
is_digit byte is =
    let range : IsInRange 48 57 byte = grind (arith, nat_tests) in
    let value = digit_value_digit byte range in
    record { value = value; low = omega arith }

four_back : (digits : List ℕ) → length digits ≡ 4 → list_all is_ascii_digit digits ≡ true
    → digits ≡ four_digits (digits_value 10 digits)
four_back [] four all = absurd (omega arith)
four_back (a ∷ []) four all = absurd (omega arith)
four_back (a ∷ b ∷ []) four all = absurd (omega arith)
four_back (a ∷ b ∷ c ∷ []) four all = absurd (omega arith)
four_back (a ∷ b ∷ c ∷ d ∷ e ∷ more) four all = absurd (omega arith)
four_back (a ∷ b ∷ c ∷ d ∷ []) four all =
    let one = and_parts _ _ all in
    let two = and_parts _ _ one.1 in
    let three = and_parts _ _ two.1 in
    let last = and_parts _ _ three.1 in
    let first = is_digit a one.0 in
    let second = is_digit b two.0 in
    let third = is_digit c three.0 in
    let fourth = is_digit d last.0 in
    let back = digits_back (digit_value a) (digit_value b) (digit_value c) (digit_value d) first.low second.low third.low fourth.low in
    let value : digits_value 10 (a ∷ b ∷ c ∷ d ∷ []) ≡ ((digit_value a * 10 + digit_value b) * 10 + digit_value c) * 10 + digit_value d = omega arith in
    rw value (four_same a b c d _ (omega (arith, back.first, first.value)) (omega (arith, back.second, second.value))
    (omega (arith, back.third, third.value)) (omega (arith, back.fourth, fourth.value)))
  where
    four_same : (a b c d number : ℕ) → a ≡ digit (number / 1000) → b ≡ digit (number / 100) → c ≡ digit (number / 10) → d ≡ digit number
        → a ∷ b ∷ c ∷ d ∷ [] ≡ four_digits number
    four_same a b c d number first second third fourth = cc

pub name_is : (name : List ℕ) → is_message_name name ≡ true → name ≡ message_name (name_number name)
name_is name is =
    let parts = message_parts name is in
    sym (take-append-drop 4 name)
    ∙ ap (λ (front : List ℕ). front ++ digits_of name) (bytes_eq-true _ _ parts.front)
    ∙ ap (λ (digits : List ℕ). prefix ++ digits) (four_back (digits_of name) parts.four parts.digits)

-- a pattern without wildcards means itself
plain_step : (mark : ℕ) (more name : List ℕ) → (mark == 42) ≡ false → matches (mark ∷ more) name ≡ one_and (matches more) mark name
plain_step mark more name other = ap (λ star. cond star (some_end (matches more) name) (one_and (matches more) mark name)) other

matches_itself : (pattern : List ℕ) → list_any is_wild pattern ≡ false → matches pattern pattern ≡ true
matches_itself [] fixed = refl
matches_itself (mark ∷ more) fixed =
    let both = or_parts (is_wild mark) (list_any is_wild more) fixed in
    let one = or_parts (mark == 42) (mark == 37) both.0 in
    let here : stands_for mark mark ≡ true = or_from_either (mark == 37) (same_letter mark mark) (inr (eq-eqb _ _ refl)) in
    plain_step mark more (mark ∷ more) one.0 ∙ and_from (stands_for mark mark) (matches more more) here (matches_itself more both.1)

-- and it means one name in capitals
pub fixed_matches : (pattern name : List ℕ) → list_any is_wild pattern ≡ false → is_upper_name pattern ≡ true → is_upper_name name ≡ true
    → matches pattern name ≡ bytes_eq name pattern
fixed_matches pattern name fixed up up_name =
    same_truth (matches pattern name) (bytes_eq name pattern)
    (λ is. rw (one_name pattern name pattern fixed is (matches_itself pattern fixed) up_name up) (bytes_eq_itself pattern))
    (λ is. rw (bytes_eq-true name pattern is) (matches_itself pattern fixed))

-- the name of a message has no wildcards, and is in capitals
digit_fixed : (number : ℕ) → is_wild (digit number) ≡ false
digit_fixed number = grind (arith, nat_tests)

digit_upper : (number : ℕ) → (is_name (digit number) && not (is_ascii_lowercase (digit number))) ≡ true
unfolding is_name is_word
digit_upper number = grind (arith, nat_tests)

pub name_fixed : (number : ℕ) → list_any is_wild (message_name number) ≡ false
unfolding prefix
name_fixed number = rw (digit_fixed (number / 1000), digit_fixed (number / 100), digit_fixed (number / 10), digit_fixed number) refl

pub name_upper : (number : ℕ) → is_upper_name (message_name number) ≡ true
unfolding prefix is_name is_word
name_upper number =
    and_from _ _ (digit_upper (number / 1000)) (and_from _ _ (digit_upper (number / 100))
    (and_from _ _ (digit_upper (number / 10)) (and_from _ true (digit_upper number) refl)))

-- the pattern of one number means the name that has it
pub number_matches : (number : ℕ) (name : List ℕ) → number ≤ MOST_MESSAGES → is_upper_name name ≡ true
    → matches (message_name number) name ≡ (is_message_name name && name_number name == number)
number_matches number name few up =
    fixed_matches (message_name number) name (name_fixed number) (name_upper number) up
    ∙ same_truth (bytes_eq name (message_name number)) (is_message_name name && name_number name == number)
    (λ is. rw (bytes_eq-true name (message_name number) is) (and_from _ _ (is_message number) (eq-eqb _ number (number_of_name number few))))
    (λ is.
    let both = and_parts (is_message_name name) (name_number name == number) is in
    let same : name ≡ message_name number = name_is name both.0 ∙ ap message_name (eqb-true (name_number name) number both.1) in
    rw same (bytes_eq_itself (message_name number)))
