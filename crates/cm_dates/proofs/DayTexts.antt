-- The text of a day is read as that day.
use Rattle.std.proofs.Common.{◌≡◌, ℕ, ◌+◌, ◌≤◌, ℤ, pos, Bool, true, false, not, ◌||◌, ◌==◌, nat_lt, List, ◌∷◌, ◌++◌, length, take, drop, Some, Ok, refl, ap, subst, sym, ◌∙◌, arith, length-append}
use Rattle.std.specs.Char.{is_ascii_digit}
use Rattle.std.specs.Fmt.{decimal}
use Rattle.std.specs.List.{after_first, before_first, list_all}
use Rattle.std.specs.Str.Parse.{digits_value}
use Rattle.std.proofs.Math.Seq.{drop-append-add, take-append_seam}
use Rattle.std.proofs.lemmas.Bool.Decides.{nat_tests}
use Rattle.std.proofs.lemmas.List.Folds.{list_all-append}
use Rattle.cm_lists.proofs.Digits.{decimal_fits_two, decimal_of_four, is_written}
use Rattle.cm_lists.proofs.Numbers.{one_or_two}
use Rattle.cm_lists.proofs.Prefixes.{prefix_len_stop}
use Rattle.cm_lists.proofs.Quantifiers.{all_weaker}
use Rattle.jiff_core.specs.Calendar.{IsBetween, IsCivilDate, days_from_civil, days_in_month}
use Rattle.jiff_core.proofs.CalendarLemmas.{days_in_month_bounds}
use Rattle.jiff_core.proofs.SignedLemmas.{signed_arith}
use Rattle.cm_text.specs.Bytes.{is_word}
use Rattle.cm_fields.specs.declared.trial.Try.TheVariants.{Accept}
use Rattle.cm_fields.specs.declared.value.Value.{Value}
use Rattle.cm_fields.specs.declared.value.Value.TheVariants.{Date}
use Rattle.cm_dates.specs.Date.{date, date_of, dated, day_in, is_hyphen, is_number, month_name, month_of, year_of}
use Rattle.cm_dates.specs.DayText.{IsDayText}
use Rattle.cm_dates.proofs.Days.{year_of_day}
use Rattle.cm_dates.proofs.MonthNames.{is_name}

abbrev is_plain : ℕ → Bool
is_plain byte = not (is_hyphen byte)

plain_digit : (byte : ℕ) → is_ascii_digit byte ≡ true → is_plain byte ≡ true
plain_digit byte digit = grind (arith, nat_tests)

word_digit : (byte : ℕ) → is_ascii_digit byte ≡ true → is_word byte ≡ true
unfolding is_word
word_digit byte digit = grind (arith, nat_tests)

before_part : (part more : List ℕ) → list_all is_plain part ≡ true → before_first is_hyphen (part ++ 45 ∷ more) ≡ part
before_part part more plain =
    ap (λ size. take size (part ++ 45 ∷ more)) (prefix_len_stop is_plain part 45 more plain refl)
    ∙ take-append_seam part (45 ∷ more)

after_part : (part more : List ℕ) → list_all is_plain part ≡ true → after_first is_hyphen (part ++ 45 ∷ more) ≡ more
after_part part more plain =
    ap (λ size. drop (size + 1) (part ++ 45 ∷ more)) (prefix_len_stop is_plain part 45 more plain refl)
    ∙ drop-append-add part (45 ∷ more) 1

-- what three parts say
parts_read : (day letters year : List ℕ) → list_all is_plain day ≡ true → list_all is_plain letters ≡ true
    → date_of (day ++ 45 ∷ (letters ++ 45 ∷ year)) ≡ dated day (month_of letters) year
unfolding date_of
parts_read day letters year first second =
    rw (
      before_part day (letters ++ 45 ∷ year) first,
      after_part day (letters ++ 45 ∷ year) first,
      before_part letters year second,
      after_part letters year second,
    ) refl

-- a day of the years that a date may have
day_read : (year month day : ℕ) → IsCivilDate (pos year) month day → IsBetween (pos 1970) (pos 2099) (pos year)
    → day_in year month day ≡ Ok (Date (days_from_civil (pos year) month day))
unfolding day_in
day_read year month day civil range =
    let early : nat_lt year 1970 ≡ false = grind (arith, signed_arith, nat_tests) in
    let late : nat_lt 2099 year ≡ false = grind (arith, signed_arith, nat_tests) in
    let end : nat_lt (days_in_month (pos year) month) day ≡ false = grind (arith, nat_tests) in
    rw (early, late, end) refl

dated_of : (day year : List ℕ) (month : ℕ) → is_number 1 2 day ≡ true → is_number 2 4 year ≡ true
    → (digits_value 10 day == 0) ≡ false
    → dated day (Some month) year ≡ day_in (year_of year) month (digits_value 10 day)
dated_of day year month first second some = rw (first, second, some) refl

number_of_size : (few many : ℕ) (digits : List ℕ) → (length digits == few || length digits == many) ≡ true
    → list_all is_ascii_digit digits ≡ true → is_number few many digits ≡ true
number_of_size few many digits size are = rw (size, are) refl

-- the digits of a date's day and year say it
date_read : (year month day : ℕ) → IsCivilDate (pos year) month day → IsBetween (pos 1970) (pos 2099) (pos year)
    → dated (decimal day) (Some month) (decimal year) ≡ Ok (Date (days_from_civil (pos year) month day))
date_read year month day civil range =
    let first : 1970 ≤ year = omega (arith, signed_arith) in
    let last : year ≤ 2099 = omega (arith, signed_arith) in
    let bounds = days_in_month_bounds (pos year) month in
    let written = is_written day (omega arith) in
    let year_written = is_written year (omega arith) in
    let four = decimal_of_four year (omega arith) (omega arith) in
    let day_shape = number_of_size 1 2 (decimal day)
    (one_or_two (length (decimal day)) written.some (decimal_fits_two day (omega arith))) written.digits in
    let year_shape = number_of_size 2 4 (decimal year) (rw four refl) year_written.digits in
    let some : (digits_value 10 (decimal day) == 0) ≡ false = rw written.value (grind (arith, nat_tests)) in
    let whole : year_of (decimal year) ≡ year = rw four year_written.value in
    dated_of (decimal day) (decimal year) month day_shape year_shape some
    ∙ ap (λ year. day_in year month (digits_value 10 (decimal day))) whole
    ∙ ap (λ day. day_in year month day) written.value
    ∙ day_read year month day civil range

-- a run of word bytes, with another byte after it
run_read : (run more : List ℕ) (stop at : ℕ) (value : Value) → list_all is_word run ≡ true → is_word stop ≡ false
    → date_of run ≡ Ok value → date (run ++ stop ∷ more) at ≡ Accept value (length run + 1) (at + length run)
run_read run more stop at value words ends is =
    let size = prefix_len_stop is_word run stop more words ends in
    let inside : (length run == length (run ++ stop ∷ more)) ≡ false =
    grind (arith, nat_tests, length-append run (stop ∷ more)) in
    let whole = take-append_seam run (stop ∷ more) in
    rw (size, inside, whole, is) refl

hyphen_is_word : is_word 45 ≡ true
unfolding is_word
hyphen_is_word = refl

words_of_parts : (day letters year : List ℕ) → list_all is_word day ≡ true → list_all is_word letters ≡ true
    → list_all is_word year ≡ true → list_all is_word (day ++ 45 ∷ (letters ++ 45 ∷ year)) ≡ true
words_of_parts day letters year first second third =
    rw (
      list_all-append is_word day (45 ∷ (letters ++ 45 ∷ year)),
      first,
      hyphen_is_word,
      list_all-append is_word letters (45 ∷ year),
      second,
      hyphen_is_word,
      third,
    ) refl

pub text_read : (day : ℤ) (text more : List ℕ) (stop at : ℕ) → IsBetween (pos 0) (pos 47481) day → IsDayText day text
    → is_word stop ≡ false → date (text ++ stop ∷ more) at ≡ Accept (Date day) (length text + 1) (at + length text)
text_read day text more stop at within shown ends =
    let range = year_of_day (pos shown.year) shown.month shown.day_of_month shown.civil
    (subst (IsBetween (pos 0) (pos 47481)) (sym shown.day_is) within) in
    let bounds = days_in_month_bounds (pos shown.year) shown.month in
    let written = is_written shown.day_of_month (let upper = shown.civil.2.1 in omega arith) in
    let year_written = is_written shown.year (omega (arith, signed_arith)) in
    let name = is_name shown.month shown.civil.1 in
    let plain = all_weaker is_ascii_digit is_plain plain_digit (decimal shown.day_of_month) written.digits in
    let words = words_of_parts (decimal shown.day_of_month) (month_name shown.month) (decimal shown.year)
    (all_weaker is_ascii_digit is_word word_digit (decimal shown.day_of_month) written.digits) name.words
    (all_weaker is_ascii_digit is_word word_digit (decimal shown.year) year_written.digits) in
    let read = ap date_of shown.text_is
    ∙ parts_read (decimal shown.day_of_month) (month_name shown.month) (decimal shown.year) plain name.plain
    ∙ ap (λ month. dated (decimal shown.day_of_month) month (decimal shown.year)) name.same
    ∙ date_read shown.year shown.month shown.day_of_month shown.civil range
    ∙ ap (λ day. Ok (Date day)) shown.day_is in
    run_read text more stop at (Date day) (ap (list_all is_word) shown.text_is ∙ words) ends read
