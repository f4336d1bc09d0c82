-- Each field of an image: its reader and its writer.
use Rattle.std.proofs.Common.{◌≡◌, ℕ, zero, suc, ◌<◌, ◌≤◌, ◌^◌, ◌==◌, Bool, true, false, not, ◌&&◌, ◌||◌, nat_lt, cond, List, [], ◌∷◌, ◌++◌, length, get_or, Result, Ok, Err, refl, ap, subst, sym, ◌∙◌, arith}
use Rattle.std.specs.Char.{is_ascii_digit, is_ascii_lowercase}
use Rattle.std.specs.Fmt.{decimal}
use Rattle.std.specs.List.{join_with_byte, list_all, slice_split}
use Rattle.std.specs.Str.Parse.{digits_value}
use Rattle.std.proofs.lemmas.Bool.{and_from, and_parts, leb-true, le-leb, lt-ltb, ltb-true, or_right}
use Rattle.std.proofs.lemmas.Bool.Decides.{nat_tests}
use Rattle.std.proofs.lemmas.Fmt.{decimal-digits_value, decimal_digit, decimal_nonempty, digits_decimal, digits_value-decimal, first_decimal, length-decimal-le}
use Rattle.std.proofs.lemmas.List.Splits.{join_with_byte-slice_split}
use Rattle.std.proofs.lemmas.Str.Parse.{digits_value_short}
use Rattle.cm_lists.proofs.Digits.{numerals}
use Rattle.cm_lists.proofs.Quantifiers.{all_joined, all_weaker}
use Rattle.cm_text.specs.Bytes.{is_name, is_text, is_word}
use Rattle.cm_files.specs.Catalogue.{is_directory_name, is_upper_name}
use Rattle.ex_store.specs.WellFormed.{is_file_name, is_file_type}
use Rattle.cm_io.specs.declared.status.Kind.{Kind}
use Rattle.cm_io.specs.declared.status.Kind.TheVariants.{Form}
use Rattle.ex_image.specs.Fields.{directory_of, formed, is_logical, is_note, is_numeral, job_of, logical_of, note_of, number_of}
use Rattle.ex_image.specs.Grammar.{is_short}
use Rattle.ex_image.proofs.Spellings.{IsSpelling, done, tested}

-- a byte of a field: one above the space
abbrev pub is_dark : ℕ → Bool
is_dark byte = nat_lt 32 byte

-- a byte of a line
abbrev pub is_inside : ℕ → Bool
is_inside byte = not (byte == 10)

pub dark_inside : (byte : ℕ) → is_dark byte ≡ true → is_inside byte ≡ true
dark_inside byte dark = grind (arith, nat_tests)

digit_dark : (byte : ℕ) → is_ascii_digit byte ≡ true → is_dark byte ≡ true
digit_dark byte digit = grind (arith, nat_tests)

pub name_dark : (byte : ℕ) → is_name byte ≡ true → is_dark byte ≡ true
unfolding is_name is_word
name_dark byte name = grind (arith, nat_tests)

text_inside : (byte : ℕ) → is_text byte ≡ true → is_inside byte ≡ true
unfolding is_text
text_inside byte text = grind (arith, nat_tests)

pub point_no_name : is_name 46 ≡ false
unfolding is_name is_word
point_no_name = refl

-- what a numeral is
record IsNumber (digits : List ℕ) : Type 0 where
  some : 0 < length digits
  few : length digits ≤ 10
  all : list_all is_ascii_digit digits ≡ true
  plain : (length digits == 1 || not (get_or digits 0 0 == 48)) ≡ true

number_is : (digits : List ℕ) → is_numeral digits ≡ true → IsNumber digits
number_is digits numeral =
    let last = and_parts _ _ numeral in
    let all = and_parts _ _ last.0 in
    let few = and_parts _ _ all.0 in
    record { some = ltb-true _ _ few.0; few = leb-true _ _ few.1; all = all.1; plain = last.1 }

is_number : (digits : List ℕ) → IsNumber digits → is_numeral digits ≡ true
is_number digits number =
    and_from _ _
    (and_from _ _ (and_from _ _ (lt-ltb _ _ number.some) (le-leb _ _ number.few)) number.all)
    number.plain

plain_zero : (digits : List ℕ) → (length digits == 1 || not (get_or digits 0 0 == 48)) ≡ true
    → get_or digits 0 0 ≡ 48 → length digits ≡ 1
plain_zero digits plain nought = grind (arith, nat_tests)

-- what a number of few digits is written as
number_written : (digits : List ℕ) → IsNumber digits → decimal (digits_value 10 digits) ≡ digits
number_written digits number =
    let few = digits_value_short numerals digits 10 number.all number.few in
    decimal-digits_value numerals digits number.all number.some (plain_zero digits number.plain) (omega arith)

plain_decimal : (number : ℕ) → number < 2 ^ 64
    → (length (decimal number) == 1 || not (get_or (decimal number) 0 0 == 48)) ≡ true
plain_decimal zero small = rw (decimal_digit 0 (omega arith)) refl
plain_decimal (suc number) small =
    let first = first_decimal (suc number) (omega arith) small in
    or_right (length (decimal (suc number)) == 1) (not (get_or (decimal (suc number)) 0 0 == 48))
    (grind (arith, nat_tests))

decimal_is : (number : ℕ) → number < 10 ^ 10 → IsNumber (decimal number)
decimal_is number small =
    let less : number < 2 ^ 64 = omega arith in
    record {
      some = decimal_nonempty number less;
      few = length-decimal-le 10 number (omega arith) small less;
      all = digits_decimal numerals number less;
      plain = plain_decimal number less;
    }

number_takes : (digits : List ℕ) (number : ℕ) → number_of digits ≡ Ok number
    → (digits ≡ decimal number) × (is_short number ≡ true)
unfolding number_of
number_takes digits number is = by (is_numeral digits) (number_is digits) is
  where
    by : (numeral : Bool) → (numeral ≡ true → IsNumber digits)
        → cond numeral (done (digits_value 10 digits)) (Err Form) ≡ done number
        → (digits ≡ decimal number) × (is_short number ≡ true)
    by true number_is is =
        let same : digits_value 10 digits ≡ number = cc in
        let few = digits_value_short numerals digits 10 (number_is refl).all (number_is refl).few in (
          sym (number_written digits (number_is refl)) ∙ ap decimal same,
          subst (λ number. is_short number ≡ true) same (lt-ltb (digits_value 10 digits) (10 ^ 10) few),
        )
    by false number_is is = absurd (cc)

number_again : (number : ℕ) → is_short number ≡ true → number_of (decimal number) ≡ Ok number
unfolding number_of
number_again number short =
    let small : number < 10 ^ 10 = ltb-true number (10 ^ 10) short in
    let less : number < 2 ^ 64 = omega arith in
    rw (is_number (decimal number) (decimal_is number small)) (ap done (digits_value-decimal numerals number less))

pub number_digits : (number : ℕ) → is_short number ≡ true → list_all is_ascii_digit (decimal number) ≡ true
number_digits number short = (decimal_is number (ltb-true number (10 ^ 10) short)).all

number_only : (number : ℕ) → is_short number ≡ true → list_all is_dark (decimal number) ≡ true
number_only number short =
    all_weaker is_ascii_digit is_dark digit_dark (decimal number) (number_digits number short)

pub number_spelling : IsSpelling number_of decimal (λ number. is_short number ≡ true) is_dark
number_spelling = record { takes = number_takes; again = number_again; only = number_only }

-- names
abbrev is_upper : ℕ → Bool
is_upper byte = is_name byte && not (is_ascii_lowercase byte)

upper_name : (byte : ℕ) → is_upper byte ≡ true → is_name byte ≡ true
upper_name byte upper = (and_parts _ _ upper).0

upper_dark : (byte : ℕ) → is_upper byte ≡ true → is_dark byte ≡ true
upper_dark byte upper = name_dark byte (upper_name byte upper)

parts_dark : (parts : List (List ℕ))
    → list_all (λ part. nat_lt 0 (length part) && is_upper_name part) parts ≡ true
    → list_all is_dark (join_with_byte 46 parts) ≡ true
parts_dark [] all = refl
parts_dark (part ∷ []) all =
    all_weaker is_upper is_dark upper_dark part (and_parts _ _ (and_parts _ _ all).0).1
parts_dark (part ∷ other ∷ parts) all =
    let both = and_parts _ _ all in
    all_joined is_dark part 46 (join_with_byte 46 (other ∷ parts))
    (all_weaker is_upper is_dark upper_dark part (and_parts _ _ both.0).1) refl
    (parts_dark (other ∷ parts) both.1)

directory_dark : (name : List ℕ) → is_directory_name name ≡ true → list_all is_dark name ≡ true
directory_dark name is =
    subst (λ bytes. list_all is_dark bytes ≡ true) (join_with_byte-slice_split 46 name)
    (parts_dark (slice_split (λ byte. byte == 46) name) (and_parts _ _ is).1)

logical_dark : (name : List ℕ) → is_logical name ≡ true → list_all is_dark name ≡ true
logical_dark name is = all_weaker is_upper is_dark upper_dark name (and_parts _ _ is).1

pub file_name_names : (name : List ℕ) → is_file_name name ≡ true → list_all is_name name ≡ true
file_name_names name is = all_weaker is_upper is_name upper_name name (and_parts _ _ is).1

pub file_name_dark : (name : List ℕ) → is_file_name name ≡ true → list_all is_dark name ≡ true
file_name_dark name is = all_weaker is_upper is_dark upper_dark name (and_parts _ _ is).1

pub file_type_names : (kind : List ℕ) → is_file_type kind ≡ true → list_all is_name kind ≡ true
file_type_names kind is = all_weaker is_upper is_name upper_name kind (and_parts _ _ is).1

note_inside : (note : List ℕ) → is_note note ≡ true → list_all is_inside note ≡ true
note_inside note is = all_weaker is_text is_inside text_inside note (and_parts _ _ is).1

-- the bytes themselves
abbrev pub itself : List ℕ → List ℕ
itself bytes = bytes

pub directory_spelling : IsSpelling directory_of itself (λ name. is_directory_name name ≡ true) is_dark
directory_spelling = tested is_directory_name is_dark directory_dark

pub logical_spelling : IsSpelling logical_of itself (λ name. is_logical name ≡ true) is_dark
logical_spelling = tested is_logical is_dark logical_dark

pub job_spelling : IsSpelling job_of itself (λ name. is_file_name name ≡ true) is_dark
job_spelling = tested is_file_name is_dark file_name_dark

pub note_spelling : IsSpelling note_of itself (λ note. is_note note ≡ true) is_inside
note_spelling = tested is_note is_inside note_inside

pub name_spelling : IsSpelling (formed is_file_name) itself (λ name. is_file_name name ≡ true) is_name
name_spelling = tested is_file_name is_name file_name_names

pub kind_spelling : IsSpelling (formed is_file_type) itself (λ kind. is_file_type kind ≡ true) is_name
kind_spelling = tested is_file_type is_name file_type_names

-- a field within a line
pub within : {A : Type 0} {read : List ℕ → Result A Kind} {write : A → List ℕ} {Good : A → Type 0}
    → IsSpelling read write Good is_dark → (x : A) → Good x → list_all is_inside (write x) ≡ true
within {write = write} spelling x good = all_weaker is_dark is_inside dark_inside (write x) (spelling.only x good)

-- one field more
pub field_more : (letter rest : List ℕ) → list_all is_inside letter ≡ true → list_all is_inside rest ≡ true
    → list_all is_inside (letter ++ 32 ∷ rest) ≡ true
field_more letter rest one two = all_joined is_inside letter 32 rest one refl two
