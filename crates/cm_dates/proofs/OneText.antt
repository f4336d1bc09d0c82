-- A day has one text.
-- It is epoch_day_injective, over the dates that the two texts are read as.
use Rattle.std.proofs.Common.{◌≡◌, ℤ, ℕ, pos, List, sym, ◌∙◌, refl}
use Rattle.jiff_core.specs.declared.civil.date.Date.{Date}
use Rattle.jiff_core.proofs.DateLemmas.{epoch_day_injective}
use Rattle.cm_dates.specs.DayText.{IsDayText, date_text}

date_of_text : (day : ℤ) (text : List ℕ) → IsDayText day text → Date
date_of_text day text shown = record {
  year = pos shown.year;
  month = shown.month;
  day = shown.day_of_month;
  year_in = shown.civil.0;
  month_in = shown.civil.1;
  day_in = shown.civil.2;
}

pub one_text : (day : ℤ) (text other : List ℕ) → IsDayText day text → IsDayText day other → text ≡ other
unfolding date_of_text
one_text day text other first second =
    let day_is = first.day_is ∙ sym second.day_is in
    let same = epoch_day_injective (date_of_text day text first) (date_of_text day other second) day_is in
    let year : first.year ≡ second.year = (let signed : pos first.year ≡ pos second.year = same.0 in cc) in
    let month : first.month ≡ second.month = same.1 in
    let day_of_month : first.day_of_month ≡ second.day_of_month = same.2 in
    let texts : date_text first.year first.month first.day_of_month
    ≡ date_text second.year second.month second.day_of_month =
    rw (year, month, day_of_month) refl in
    first.text_is ∙ texts ∙ sym second.text_is
