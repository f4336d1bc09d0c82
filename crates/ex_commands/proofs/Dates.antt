-- The day of a date that is read is one from 1-JAN-1970 to 31-DEC-2099.
use Rattle.std.proofs.Common.{◌≡◌, ℕ, ℤ, pos, negsuc, ◌+◌, ◌<◌, ◌≤◌, ◌||◌, ◌==◌, Bool, true, false, not, nat_lt, if◌then◌else◌, List, [], ◌∷◌, length, Option, Some, None, Result, Ok, Err, refl, arith}
use Rattle.std.specs.Int.{IsInRange}
use Rattle.std.specs.List.{after_first, before_first}
use Rattle.std.specs.Str.Parse.{digits_value}
use Rattle.std.proofs.lemmas.Bool.{cond_both, or_parts}
use Rattle.std.proofs.lemmas.Bool.Decides.{nat_tests}
use Rattle.jiff_core.specs.Calendar.{IsBetween, days_from_civil, days_in_month}
use Rattle.jiff_core.proofs.SignedLemmas.{signed_arith}
use Rattle.cm_text.specs.Case.{equals}
use Rattle.cm_fields.specs.declared.code.Code.{Code}
use Rattle.cm_fields.specs.declared.code.Code.TheVariants.{BadDate, YearRange}
use Rattle.cm_fields.specs.declared.value.Value.{Value}
use Rattle.cm_fields.specs.declared.value.Value.TheVariants.{Date}
use Rattle.cm_dates.specs.Date.{date_of, dated, day_in, is_hyphen, is_number, month_among, month_of, months, year_of}
use Rattle.cm_dates.proofs.Days.{day_between}
use Rattle.ex_store.specs.WellFormed.{is_day}

day_is : (day : ℤ) → IsBetween (pos 0) (pos 47481) day → is_day (Some day) ≡ true
day_is (pos n) between = (let most = between.1 in grind (arith, nat_tests))
day_is (negsuc n) between = absurd (let low = between.0 in omega (arith, signed_arith))

-- a date that is taken has such a day
abbrev pub IsDayIfOk : Result Value Code → Type 0
IsDayIfOk (Ok (Date day)) = is_day (Some day) ≡ true
IsDayIfOk (Ok value) = Unit {0}
IsDayIfOk (Err code) = Unit {0}

day_in_is : (year month day : ℕ) → IsInRange 1 12 month → 1 ≤ day → IsDayIfOk (day_in year month day)
unfolding day_in
day_in_is year month day in_year some =
    cond_both (nat_lt year 1970 || nat_lt 2099 year) (Err YearRange) _ IsDayIfOk (λ out. tt) (λ years. cond_both (nat_lt (days_in_month (pos year) month) day) (Err BadDate) (Ok (Date (days_from_civil (pos year) month day))) IsDayIfOk (λ over. tt) (λ fits. (
    let both = or_parts (nat_lt year 1970) (nat_lt 2099 year) years in
    let early = both.0 in
    let late = both.1 in
    let from : 1970 ≤ year = grind (arith, nat_tests) in
    let to : year ≤ 2099 = grind (arith, nat_tests) in
    let few : day ≤ days_in_month (pos year) month = grind (arith, nat_tests) in
    day_is (days_from_civil (pos year) month day) (day_between year month day from to in_year some few)
    )))

-- a month that is found is one of those that are looked through
month_within : (names : List (List ℕ)) (first month : ℕ) (letters : List ℕ) → month_among names first letters ≡ Some month
    → (first ≤ month) × (month < first + length names)
month_within [] first month letters is = cc
month_within (name ∷ names) first month letters is =
    by (equals name letters) is (month_within names (first + 1) month letters)
  where
    by : (test : Bool) → (if test then Some first else month_among names (first + 1) letters) ≡ Some month
        → (month_among names (first + 1) letters ≡ Some month → (first + 1 ≤ month) × (month < first + 1 + length names))
        → (first ≤ month) × (month < first + length (name ∷ names))
    by true is later = let same : first ≡ month = cc in (omega arith, omega arith)
    by false is later =
        let it = later is in
        let low = it.0 in
        let high = it.1 in
        (omega arith, omega arith)

month_range : (letters : List ℕ) (month : ℕ) → month_of letters ≡ Some month → IsInRange 1 12 month
unfolding month_of
month_range letters month is =
    let it = month_within months 1 month letters is in
    let low = it.0 in
    let high = it.1 in
    (omega arith, omega arith)

dated_is : (day : List ℕ) (found : Option ℕ) (year : List ℕ) → ((month : ℕ) → found ≡ Some month → IsInRange 1 12 month)
    → IsDayIfOk (dated day found year)
dated_is day None year in_year = tt
dated_is day (Some month) year in_year =
    cond_both (not (is_number 1 2 day) || not (is_number 2 4 year) || digits_value 10 day == 0) (Err BadDate) _ IsDayIfOk (λ bad. tt) (λ good. (
    let none = (or_parts (not (is_number 1 2 day) || not (is_number 2 4 year)) (digits_value 10 day == 0) good).1 in
    let some : 1 ≤ digits_value 10 day = grind (arith, nat_tests) in
    day_in_is (year_of year) month (digits_value 10 day) (in_year month refl) some
    ))

pub date_is : (run : List ℕ) → IsDayIfOk (date_of run)
unfolding date_of
date_is run =
    let more = after_first is_hyphen run in
    dated_is (before_first is_hyphen run) (month_of (before_first is_hyphen more)) (after_first is_hyphen more)
    (month_range (before_first is_hyphen more))
