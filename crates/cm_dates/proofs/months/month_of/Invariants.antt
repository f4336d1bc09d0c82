use Rattle.std.proofs.Common.{◌≡◌, ◌-◌, drop}
use Rattle.cm_dates.specs.Date.{month_among, month_of, months}
use Rattle.cm_dates.proofs.months.month_of.Given as goal

abbrev pub invariant-loop-month : goal.invariant-loop-month
invariant-loop-month l = month_among (drop (l.month - 1) months) l.month l.letters ≡ month_of l.letters
