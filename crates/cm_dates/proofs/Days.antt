-- The years of the days that a date field can have.
-- Days are counted in ℕ: days_from_civil-day_count makes the count, and omega stays over counts (day_count-early,
-- day_count-lt_year). (arith, signed_arith) crosses to ℤ and back.
use Rattle.std.proofs.Common.{◌≡◌, ◌≤◌, ℕ, ℤ, pos, refl, rules, arith}
use Rattle.std.specs.Int.{IsInRange}
use Rattle.std.proofs.lemmas.Int.{by_lt_z}
use Rattle.jiff_core.specs.Calendar.{IsBetween, IsCivilDate, day_count, days_from_civil, days_in_month}
use Rattle.jiff_core.proofs.CalendarLemmas.{day_count-epoch, day_count-last_of_year, day_count-lt_year, days_from_civil-day_count}
use Rattle.jiff_core.proofs.MarchLemmas.{day_count-early}
use Rattle.jiff_core.proofs.SignedLemmas.{signed_arith}
use Rattle.cm_dates.proofs.Texts.{after_last}

last_day : day_count (pos 2099) 12 31 ≡ 4_419_434
last_day =
    let first = day_count-early (pos 2099) 12098 1 1 refl (omega arith) (omega arith) (omega arith) in
    omega (arith, day_count-last_of_year (pos 2099), first)

last_date : IsCivilDate (pos 2099) 12 31
last_date = search rules

-- days from 0 to the last are of the years 1970 to 2099
pub year_of_day : (y : ℤ) (m d : ℕ) → IsCivilDate y m d → IsBetween (pos 0) (pos 47481) (days_from_civil y m d)
    → IsBetween (pos 1970) (pos 2099) y
year_of_day y m d civil within =
    let count = days_from_civil-day_count y m d in
    by_lt_z y (pos 1970)
    (λ early. let before = day_count-lt_year y m d (pos 1970) 1 1 civil (omega arith) early in
    absurd (omega (arith, signed_arith, count, day_count-epoch, before)))
    (λ from. by_lt_z (pos 2099) y
    (λ late. let after = day_count-lt_year (pos 2099) 12 31 y m d last_date civil.2.0 late in
    absurd (omega (arith, signed_arith, count, last_day, after)))
    (λ to. (from, to)))

before_first_day : day_count (pos 1969) 12 31 ≡ 4_371_952
before_first_day =
    let first = day_count-early (pos 1969) 11968 1 1 refl (omega arith) (omega arith) (omega arith) in
    omega (arith, day_count-last_of_year (pos 1969), first)

date_before : IsCivilDate (pos 1969) 12 31
date_before = search rules

-- and the days of these years are those
pub day_between : (y m d : ℕ) → 1970 ≤ y → y ≤ 2099 → IsInRange 1 12 m → 1 ≤ d → d ≤ days_in_month (pos y) m
    → IsBetween (pos 0) (pos 47481) (days_from_civil (pos y) m d)
day_between y m d from to month some fits =
    let count = days_from_civil-day_count (pos y) m d in
    let civil : IsCivilDate (pos y) m d = ((omega (arith, signed_arith), omega (arith, signed_arith)), month, (some, fits)) in
    let before = day_count-lt_year (pos 1969) 12 31 (pos y) m d date_before some (omega (arith, signed_arith)) in
    let after = day_count-lt_year (pos y) m d (pos 2100) 1 1 civil (omega arith) (omega (arith, signed_arith)) in
    (omega (arith, signed_arith, count, before, before_first_day), omega (arith, signed_arith, count, after, after_last))
