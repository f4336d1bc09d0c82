use Rattle.std.proofs.Common.{rules, ◌≡◌, FitsSigned, arith, pos, subst, sym, w32, w64, ◌∙◌}
use Rattle.std.proofs.lemmas.Int.{to_z-of_z}
use Rattle.jiff.proofs.SpanFacts.{can_add-days, date_add-days, signed_arith}
use Rattle.jiff.specs.Words.{IsBetween, epoch_day}
use Rattle.jiff_core.proofs.DateLemmas.{civil}
use Rattle.cm_dates.proofs.Days.{year_of_day}
use Rattle.cm_dates.proofs.calendar.date_of.Goals as goal

pub unreachable-requires : goal.unreachable-requires
unreachable-requires c =
    let day : FitsSigned w32 c.args.day = c.ranges.day in
    let from : c.from.result ≡ c.args.day = simp to_z-of_z at c.from.ensures in
    let wide : FitsSigned w64 c.from.result = omega (arith, signed_arith) in
    let only = rw from at (simp to_z-of_z at c.days.ensures) in
    let can = can_add-days c.first_day.result c.args.day c.days.result only in
    let ok = c.in-Err.ensures.succeeds.1 (can.1 (omega (arith, signed_arith, c.first_day.ensures))) in
    search rules

pub returns-clause-day : goal.returns-clause-day
returns-clause-day c =
    let day : FitsSigned w32 c.args.day = c.ranges.day in
    let from : c.from.result ≡ c.args.day = simp to_z-of_z at c.from.ensures in
    let wide : FitsSigned w64 c.from.result = omega (arith, signed_arith) in
    let only = rw from at (simp to_z-of_z at c.days.ensures) in
    let sum = date_add-days c.first_day.result c.args.day c.days.result only in
    c.in-Ok.ensures.value ∙ sum ∙ omega (arith, signed_arith, c.first_day.ensures)

pub returns-clause-year : goal.returns-clause-year
returns-clause-year c =
    let day : epoch_day c.in-Ok.date ≡ c.args.day = returns-clause-day c in
    year_of_day c.in-Ok.date.year c.in-Ok.date.month c.in-Ok.date.day (civil c.in-Ok.date)
    (subst (IsBetween (pos 0) (pos 47481)) (sym day) c.requires)
