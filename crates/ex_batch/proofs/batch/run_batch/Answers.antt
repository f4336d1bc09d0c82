use Rattle.std.proofs.Common.{◌+◌, refl, ◌∙◌}
use Rattle.cm_run.specs.Cause.{ObeyCause}
use Rattle.ex_batch.specs.declared.batch.TheConstants.{CONTROL_LINES}
use Rattle.ex_batch.specs.declared.step.Next.TheVariants.{Line, Over}
use Rattle.ex_batch.proofs.Clocks.{moments_as, moments_same, moments_then}
use Rattle.ex_batch.proofs.Courses.{full_runs, over_runs, way_cut, way_first, way_more}
use Rattle.ex_batch.proofs.batch.run_batch.Goals as goal

pub loop-line-init : goal.loop-line-init
loop-line-init g c = record { way = moments_same (λ moments log keys gets. way_first _ _); faults = refl }

pub loop-line-preserved : goal.loop-line-preserved
unfolding ObeyCause
loop-line-preserved g c = record {
  way = moments_then c.loop-line.invariant.way c.in-Ok-Line.ensures.takes (λ given between later way takes log keys gets.
      way_more c.args.file.now CONTROL_LINES _ _ _ _ c.loop-line._line c.loop-line.place _ (Line c.in-Ok-Line.next)
      c.loop-line-test.true (takes log keys gets) c.in-Ok-Line.field-0-is (way log keys gets));
  faults = c.in-Ok-Line.ensures.cause ∙ c.loop-line.invariant.faults;
}

pub returns-in-Ok-Over-clause-runs : goal.returns-in-Ok-Over-clause-runs
returns-in-Ok-Over-clause-runs g c = moments_then c.loop-line.invariant.way c.in-Ok-Over.ensures.takes (λ given between later way takes log keys gets.
    over_runs c.args.file.now CONTROL_LINES _ _ _ (c.loop-line._line + 1) c.in-Ok-Over.end
    (way_more c.args.file.now CONTROL_LINES _ _ _ _ c.loop-line._line c.loop-line.place _ (Over c.in-Ok-Over.end)
    c.loop-line-test.true (takes log keys gets) c.in-Ok-Over.field-0-is (way log keys gets)))

pub returns-in-Err-clause-runs : goal.returns-in-Err-clause-runs
returns-in-Err-clause-runs g c = moments_then c.loop-line.invariant.way c.in-Err.ensures.takes (λ given between later way takes log keys gets.
    way_cut c.args.file.now CONTROL_LINES _ _ _ _ c.loop-line._line c.loop-line.place c.in-Err.stop
    c.loop-line-test.true (takes log keys gets) (way log keys gets))

-- [batch-line]
pub returns-clause-runs : goal.returns-clause-runs
returns-clause-runs g c = moments_as c.loop-line.invariant.way (λ given later way log keys gets.
    full_runs c.args.file.now CONTROL_LINES _ _ _ c.loop-line._line c.loop-line.place c.limit_end.result c.loop-line-test.false
    c.limit_end.ensures (way log keys gets))

pub returns-clause-cause : goal.returns-clause-cause
unfolding ObeyCause
returns-clause-cause g c = c.loop-line.invariant.faults
