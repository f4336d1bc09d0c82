use Rattle.cm_run.proofs.Outcomes.{handed_cut, handed_on}
use Rattle.cm_run.proofs.single_line.run_line.Goals as goal

pub returns-in-Ok-clause-traces : goal.returns-in-Ok-clause-traces
returns-in-Ok-clause-traces g c = λ log keys gets moments.
    handed_on g.A.Application.means log keys gets moments _ _ _ _ c.args.moment _ _ _ _ _ _
    (c.run_lines.ensures.traces log keys gets moments) (c.in-Ok.ensures.traces log keys gets moments)

pub returns-in-Err-clause-traces : goal.returns-in-Err-clause-traces
returns-in-Err-clause-traces g c = λ log keys gets moments.
    handed_cut g.A.Application.means log keys gets moments c.args.moment _ _ _ _ _ (c.in-Err.ensures.traces log keys gets moments)
