-- A day as it is shown.
use Rattle.std.specs.Prelude.{ℕ, zero, suc, ◌+◌, ◌-◌, nat_lt, if◌then◌else◌, ℤ, ◌≡◌, pos, unsigned_abs, List, [], ◌∷◌, ◌++◌}
use Rattle.std.specs.Fmt.{decimal}
use Rattle.jiff_core.specs.Calendar.{IsCivilDate, days_from_civil, days_in_month, days_in_year}
use Rattle.cm_dates.specs.Date.{month_name}

-- a date written: the day with no zero before it, the month in upper case, and the year
abbrev pub date_text : ℕ → ℕ → ℕ → List ℕ
date_text year month day = decimal day ++ 45 ∷ (month_name month ++ 45 ∷ decimal year)

-- the text is that of the day: the calendar has a date of this number, and the text is that date written
pub record IsDayText (day : ℤ) (text : List ℕ) : Type 0 where
  pub year : ℕ
  pub month : ℕ
  pub day_of_month : ℕ
  pub civil : IsCivilDate (pos year) month day_of_month
  pub day_is : days_from_civil (pos year) month day_of_month ≡ day
  pub text_is : text ≡ date_text year month day_of_month

-- the text of the day that stands so many days after the first of this month, within so many months
abbrev pub text_from_month : ℕ → ℕ → ℕ → ℕ → List ℕ
text_from_month zero year month days = []
text_from_month (suc more) year month days =
    if nat_lt days (days_in_month (pos year) month) then date_text year month (days + 1)
    else text_from_month more year (month + 1) (days - days_in_month (pos year) month)

-- the same of the first day of this year, within so many years
abbrev pub text_from_year : ℕ → ℕ → ℕ → List ℕ
text_from_year zero year days = []
text_from_year (suc more) year days =
    if nat_lt days (days_in_year (pos year)) then text_from_month 12 year 1 days
    else text_from_year more (year + 1) (days - days_in_year (pos year))

-- the text of a day of the years 1970 to 2099
unfoldable pub day_text : ℤ → List ℕ
day_text day = text_from_year 130 1970 (unsigned_abs day)
