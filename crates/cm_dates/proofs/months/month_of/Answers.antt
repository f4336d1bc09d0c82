use Rattle.std.proofs.Common.{◌≡◌, ◌∙◌, sym, arith, true, false}
use Rattle.cm_text.specs.Case.{equals}
use Rattle.cm_dates.specs.Date.{month_name}
use Rattle.cm_dates.proofs.MonthNames.{month_found, month_passed}
use Rattle.cm_dates.proofs.months.month_of.Goals as goal

pub returns-then-equals-clause-value : goal.returns-then-equals-clause-value
returns-then-equals-clause-value c =
    let same : equals (month_name c.loop-month.month) c.args.letters.now ≡ true = cc in
    sym (month_found c.loop-month.month c.args.letters.now (omega arith) (omega arith) same) ∙ c.loop-month.invariant

pub loop-month-preserved : goal.loop-month-preserved
loop-month-preserved c =
    let other : equals (month_name c.loop-month.month) c.args.letters.now ≡ false = cc in
    sym (month_passed c.loop-month.month c.args.letters.now (omega arith) (omega arith) other) ∙ c.loop-month.invariant
