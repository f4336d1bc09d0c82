-- The text of a day, found from 1970 on, is that of the day.
use Rattle.std.proofs.Common.{◌≡◌, ℕ, zero, suc, ◌+◌, ◌-◌, ◌<◌, ◌≤◌, nat_lt, ℤ, pos, negsuc, List, refl, arith}
use Rattle.std.proofs.lemmas.Bool.Decides.{nat_tests}
use Rattle.std.proofs.lemmas.Bool.{cond_both}
use Rattle.jiff_core.specs.Calendar.{IsBetween, day_count, days_in_month, days_in_year}
use Rattle.jiff_core.proofs.CalendarLemmas.{day_count-day, day_count-day_of_year, day_count-epoch, day_count-next_month, day_count-next_year, days_from_civil-day_count, days_of_months_all}
use Rattle.jiff_core.proofs.MarchLemmas.{day_count-early}
use Rattle.jiff_core.proofs.SignedLemmas.{signed_arith}
use Rattle.cm_dates.specs.DayText.{IsDayText, date_text, day_text, text_from_month, text_from_year}
use Rattle.cm_dates.proofs.OneText.{one_text}
use borrow.Author.Differences.{up, down}

-- the day has this many days before it, counted as the calendar counts them
abbrev IsCounted : ℤ → ℕ → Type 0
IsCounted day count = up day + 4_371_953 ≡ down day + count

found : (day : ℤ) (count year month days : ℕ) → IsCounted day count → IsBetween (pos 1970) (pos 2099) (pos year)
    → 1 ≤ month → month ≤ 12 → day_count (pos year) month 1 + days ≡ count → days < days_in_month (pos year) month
    → IsDayText day (date_text year month (days + 1))
found day count year month days counted range first last is few = record {
  year = year;
  month = month;
  day_of_month = days + 1;
  civil = (omega (arith, signed_arith), (first, last), (omega arith, omega arith));
  day_is = (
      let later = day_count-day (pos year) month 1 (days + 1) (omega arith) (omega arith) in
      let number = days_from_civil-day_count (pos year) month (days + 1) in
      omega (arith, signed_arith, later, number));
  text_is = refl;
}

from_month : (more : ℕ) (day : ℤ) (count year month days : ℕ) → IsCounted day count
    → IsBetween (pos 1970) (pos 2099) (pos year) → 1 ≤ month → month + more ≡ 13
    → day_count (pos year) month 1 + days ≡ count → count < day_count (pos year) 1 1 + days_in_year (pos year)
    → IsDayText day (text_from_month more year month days)
from_month zero day count year month days counted range first room is within =
    let last : month - 1 ≡ 12 = omega arith in
    let place = rw last at (day_count-day_of_year (pos year) month 1 (omega arith)) in
    absurd (omega (arith, place, days_of_months_all (pos year)))
from_month (suc more) day count year month days counted range first room is within =
    cond_both (nat_lt days (days_in_month (pos year) month)) _ _ (IsDayText day) (λ few. found day count year month days counted range first (omega arith) is (grind (arith, nat_tests))) (λ many.
    let all : days_in_month (pos year) month ≤ days = grind (arith, nat_tests) in
    let next = day_count-next_month (pos year) month first in
    from_month more day count year (month + 1) (days - days_in_month (pos year) month) counted range (omega arith)
    (omega arith) (omega (arith, next, all)) within)

pub after_last : day_count (pos 2100) 1 1 ≡ 4_419_435
after_last = day_count-early (pos 2100) 12099 1 1 refl (omega arith) (omega arith) (omega arith)

from_year : (more : ℕ) (day : ℤ) (count year days : ℕ) → IsCounted day count → 1970 ≤ year → year + more ≡ 2100
    → day_count (pos year) 1 1 + days ≡ count → count ≤ 4_419_434 → IsDayText day (text_from_year more year days)
from_year zero day count year days counted first room is within =
    let last : year ≡ 2100 = omega arith in
    let place = rw last at is in
    absurd (omega (arith, place, after_last))
from_year (suc more) day count year days counted first room is within =
    cond_both (nat_lt days (days_in_year (pos year))) _ _ (IsDayText day) (λ few.
    let small : days < days_in_year (pos year) = grind (arith, nat_tests) in
    from_month 12 day count year 1 days counted (omega (arith, signed_arith), omega (arith, signed_arith)) (omega arith)
    refl is (omega (arith, small, is))) (λ many.
    let all : days_in_year (pos year) ≤ days = grind (arith, nat_tests) in
    let next =
    day_count-next_year (pos year) (pos (year + 1)) (omega (arith, signed_arith)) (omega (arith, signed_arith)) in
    from_year more day count (year + 1) (days - days_in_year (pos year)) counted (omega arith) (omega arith)
    (omega (arith, next, all)) within)

pub text_of_day : (day : ℤ) → IsBetween (pos 0) (pos 47481) day → IsDayText day (day_text day)
unfolding day_text
text_of_day (pos number) within =
    from_year 130 (pos number) (4_371_953 + number) 1970 number (omega (arith, signed_arith)) (omega arith) refl
    (omega (arith, day_count-epoch)) (omega (arith, signed_arith))
text_of_day (negsuc number) within = absurd (omega (arith, signed_arith))

pub only_text : (day : ℤ) (text : List ℕ) → IsBetween (pos 0) (pos 47481) day → IsDayText day text → text ≡ day_text day
only_text day text within shown = one_text day text (day_text day) shown (text_of_day day within)
