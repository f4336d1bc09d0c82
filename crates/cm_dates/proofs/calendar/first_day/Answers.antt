use Rattle.std.proofs.Common.{◌≡◌, pos, arith}
use Rattle.jiff_core.proofs.CalendarLemmas.{day_count-epoch, days_from_civil-day_count}
use Rattle.jiff_core.proofs.SignedLemmas.{signed_arith}
use Rattle.cm_dates.proofs.calendar.first_day.Goals as goal

pub returns : goal.returns
returns c =
    let month : c.date.result.month ≡ 1 = (let signed : pos c.date.result.month ≡ pos 1 = c.date.ensures.1 in cc) in
    let day : c.date.result.day ≡ 1 = (let signed : pos c.date.result.day ≡ pos 1 = c.date.ensures.2 in cc) in
    let count = days_from_civil-day_count (pos 1970) 1 1 in
    rw (c.date.ensures.0, month, day) (omega (arith, signed_arith, count, day_count-epoch))
