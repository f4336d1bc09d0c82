-- The value of a field that is a date.
use Rattle.std.proofs.Common.{ℕ, not, ◌||◌, ◌==◌, nat_lt, pos, List, Option, Some, None, Result, Ok, Err}
use Rattle.std.specs.List.{after_first, before_first}
use Rattle.std.specs.Str.Parse.{digits_value}
use Rattle.cm_lists.proofs.Bools.{cond_each}
use Rattle.jiff_core.specs.Calendar.{days_from_civil, days_in_month}
use Rattle.cm_fields.specs.declared.code.Code.{Code}
use Rattle.cm_fields.specs.declared.code.Code.TheVariants.{BadDate, YearRange}
use Rattle.cm_fields.specs.declared.value.Value.{Value}
use Rattle.cm_fields.specs.declared.value.Value.TheVariants.{Date}
use Rattle.cm_dates.specs.Date.{date_of, dated, day_in, is_hyphen, is_number, month_of, year_of}

abbrev pub IsDate : Value → Type 0
IsDate (Date day) = Unit {0}
IsDate value = ⊥

abbrev pub IsDateIfOk : Result Value Code → Type 0
IsDateIfOk (Ok value) = IsDate value
IsDateIfOk (Err code) = Unit {0}

day_is_date : (year month day : ℕ) → IsDateIfOk (day_in year month day)
unfolding day_in
day_is_date year month day =
    cond_each IsDateIfOk (nat_lt year 1970 || nat_lt 2099 year) (Err YearRange) _ tt
    (cond_each IsDateIfOk (nat_lt (days_in_month (pos year) month) day) (Err BadDate)
    (Ok (Date (days_from_civil (pos year) month day))) tt tt)

dated_is_date : (day : List ℕ) (month : Option ℕ) (year : List ℕ) → IsDateIfOk (dated day month year)
dated_is_date day None year = tt
dated_is_date day (Some month) year =
    cond_each IsDateIfOk (not (is_number 1 2 day) || not (is_number 2 4 year) || digits_value 10 day == 0) (Err BadDate) _ tt
    (day_is_date (year_of year) month (digits_value 10 day))

-- a run that is taken as a date has a date for its value
pub run_is_date : (run : List ℕ) → IsDateIfOk (date_of run)
unfolding date_of
run_is_date run =
    let more = after_first is_hyphen run in
    dated_is_date (before_first is_hyphen run) (month_of (before_first is_hyphen more)) (after_first is_hyphen more)
