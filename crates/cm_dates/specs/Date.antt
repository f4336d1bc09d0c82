-- A date (.CMTAD): its day, a hyphen, its month, a hyphen, its year.
use Rattle.std.specs.Prelude.{ℕ, ◌+◌, ◌-◌, ◌==◌, not, ◌||◌, ◌&&◌, nat_lt, Bool, if◌then◌else◌, pos, List, [], ◌∷◌, length, slice_index_or, codes, Option, Some, None, Result, Ok, Err}
use Rattle.std.specs.Char.{is_ascii_digit}
use Rattle.std.specs.List.{after_first, before_first, list_all}
use Rattle.std.specs.Str.Parse.{digits_value}
use Rattle.jiff_core.specs.Calendar.{days_in_month, days_from_civil}
use Rattle.cm_text.specs.Bytes.{is_word}
use Rattle.cm_text.specs.Case.{equals}
use Rattle.cm_fields.specs.declared.code.Code.{Code}
use Rattle.cm_fields.specs.declared.code.Code.TheVariants.{BadDate, YearRange}
use Rattle.cm_fields.specs.declared.trial.Try.{Try}
use Rattle.cm_fields.specs.declared.value.Value.{Value}
use Rattle.cm_fields.specs.declared.value.Value.TheVariants.{Date}
use Rattle.cm_fields.specs.Try.{by_run}

-- the byte between the parts of a date
abbrev pub is_hyphen : ℕ → Bool
is_hyphen byte = byte == 45

-- the first three letters of each month's name
abbrev pub months : List (List ℕ)
months =
    codes "JAN" ∷ codes "FEB" ∷ codes "MAR" ∷ codes "APR" ∷ codes "MAY" ∷ codes "JUN"
    ∷ codes "JUL" ∷ codes "AUG" ∷ codes "SEP" ∷ codes "OCT" ∷ codes "NOV" ∷ codes "DEC" ∷ []

-- those of a month, from 1 for January
unfoldable pub month_name : ℕ → List ℕ
month_name month = slice_index_or months (month - 1) []

-- the first of these names that has these letters, in any case; the first name is that of this month
abbrev pub month_among : List (List ℕ) → ℕ → List ℕ → Option ℕ
month_among [] month letters = None
month_among (name ∷ more) month letters =
    if equals name letters then Some month else month_among more (month + 1) letters

-- the month with these letters
unfoldable pub month_of : List ℕ → Option ℕ
month_of letters = month_among months 1 letters

-- digits alone, so few or so many
abbrev pub is_number : ℕ → ℕ → List ℕ → Bool
is_number few many digits = (length digits == few || length digits == many) && list_all is_ascii_digit digits

-- two digits are those of a year from 1900 on
abbrev pub year_of : List ℕ → ℕ
year_of digits = if length digits == 2 then 1900 + digits_value 10 digits else digits_value 10 digits

-- the number of a day that the calendar has, 0 for 1-JAN-1970
unfoldable pub day_in : ℕ → ℕ → ℕ → Result Value Code
day_in year month day =
    if nat_lt year 1970 || nat_lt 2099 year then Err YearRange
    else (if nat_lt (days_in_month (pos year) month) day then Err BadDate
    else Ok (Date (days_from_civil (pos year) month day)))

-- these digits of a day and a year, and this month
abbrev pub dated : List ℕ → Option ℕ → List ℕ → Result Value Code
dated day None year = Err BadDate
dated day (Some month) year =
    if not (is_number 1 2 day) || not (is_number 2 4 year) || digits_value 10 day == 0 then Err BadDate
    else day_in (year_of year) month (digits_value 10 day)

-- what a run says as a date: its day is before its first hyphen, its month before the next, and its year after
-- that; so a hyphen too few leaves a part empty, and one too many is in the year
unfoldable pub date_of : List ℕ → Result Value Code
date_of run =
    let more = after_first is_hyphen run in
    dated (before_first is_hyphen run) (month_of (before_first is_hyphen more)) (after_first is_hyphen more)

-- [date] a run of word bytes that is a date
abbrev pub date : List ℕ → ℕ → Try
date rest at = by_run is_word date_of rest at
