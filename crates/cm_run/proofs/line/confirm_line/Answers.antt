use Rattle.cm_run.proofs.Outcomes.{confirmed_on}
use Rattle.cm_run.proofs.line.confirm_line.Goals as goal

pub returns-in-Ok-clause-traces : goal.returns-in-Ok-clause-traces
returns-in-Ok-clause-traces g c = λ log keys gets moments.
    confirmed_on g.A.Application.means log keys gets moments _ _ _ c.args.moment _ _ _ _ _ _
    (c.take_lines.ensures.traces log keys gets moments) c.in-Ok.ensures.obeys
