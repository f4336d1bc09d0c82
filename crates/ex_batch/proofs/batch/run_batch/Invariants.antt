-- The lines so far have been done, and those after them are left.
use Rattle.std.proofs.Common.{◌≡◌, ◌-◌, ℕ, List}
use Rattle.cm_io.specs.Contents.{Contents}
use Rattle.cm_run.specs.Observation.{observation}
use Rattle.ex_batch.specs.Batch.{batch_from, batch_of}
use Rattle.ex_batch.specs.Moments.{OverMoments}
use Rattle.ex_batch.specs.declared.batch.TheConstants.{CONTROL_LINES}
use Rattle.ex_batch.specs.declared.step.Next.TheVariants.{Line}
use Rattle.ex_batch.proofs.Courses.{OnWay}
use Rattle.ex_batch.proofs.batch.run_batch.Given as goal

abbrev pub invariant-loop-line : goal.invariant-loop-line
invariant-loop-line g l = record {
  way : OverMoments g.C.Clock.tells (g.C.Clock.left l.fn.clock) (g.C.Clock.left l.clock) (λ given later.
      (log : Contents) → (keys : List ℕ) → (gets : ℕ) → OnWay
      (observation (g.S.Sink.contents l.fn.screen) log keys gets given l.fn.steps l.fn.job)
      (observation (g.S.Sink.contents l.screen) log keys gets later l.steps l.job)
      (batch_from l.file (CONTROL_LINES - l._line) later l.job (Line l.place))
      (batch_of l.file given l.fn.job));
  faults : g.S.Sink.faults l.screen ≡ g.S.Sink.faults l.fn.screen;
}
