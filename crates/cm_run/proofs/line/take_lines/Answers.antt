use Rattle.std.proofs.Common.{refl, sym, ◌∙◌}
use Rattle.cm_run.specs.Cause.{ObeyCause}
use Rattle.cm_run.specs.declared.engine.TheConstants.{FILE_LINES}
use Rattle.cm_run.proofs.Course.{ahead_first}
use Rattle.cm_run.proofs.CommandLines.{files_cut, files_full, files_more, files_over}
use Rattle.cm_run.proofs.line.take_lines.Goals as goal

pub loop-line-init : goal.loop-line-init
loop-line-init g c = record { files = λ log keys gets moments. ahead_first _ _; faults = refl }

pub returns-then-not-has_line-clause-traces : goal.returns-then-not-has_line-clause-traces
returns-then-not-has_line-clause-traces g c = λ log keys gets moments.
    files_over g.A.Application.means c.args.moment _ _ _ _ _ _ (c.loop-line.invariant.files log keys gets moments)
    (sym c.has_line.ensures ∙ c.if-not-has_line.true)

pub returns-in-Err-clause-traces : goal.returns-in-Err-clause-traces
returns-in-Err-clause-traces g c = λ log keys gets moments.
    files_cut g.A.Application.means c.args.moment _ _ _ FILE_LINES c.loop-line._line _ _ _ c.loop-line-test.true
    (c.loop-line.invariant.files log keys gets moments) (c.in-Err.ensures.traces log keys gets moments)

pub loop-line-preserved : goal.loop-line-preserved
unfolding ObeyCause
loop-line-preserved g c = record {
  files = λ log keys gets moments. files_more g.A.Application.means c.args.moment _ _ _ FILE_LINES c.loop-line._line _ _ _ _
      c.loop-line-test.true (c.loop-line.invariant.files log keys gets moments) (c.in-Ok.ensures.traces log keys gets moments) refl refl;
  faults = c.in-Ok.ensures.cause ∙ c.loop-line.invariant.faults;
}

pub returns-clause-traces : goal.returns-clause-traces
returns-clause-traces g c = λ log keys gets moments.
    files_full g.A.Application.means c.args.moment _ _ FILE_LINES c.loop-line._line _ _ _ c.loop-line-test.false
    (c.loop-line.invariant.files log keys gets moments)
