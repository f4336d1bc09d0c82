use Rattle.std.proofs.Common.{◌≡◌, ◌-◌, ℕ, List}
use Rattle.cm_io.specs.Contents.{Contents}
use Rattle.cm_run.specs.declared.engine.TheConstants.{FILE_LINES}
use Rattle.cm_run.specs.Observation.{observation}
use Rattle.cm_run.specs.Trace.{file_trace}
use Rattle.cm_run.proofs.Course.{Ahead}
use Rattle.cm_run.proofs.line.take_lines.Given as goal

-- the lines so far have acted, and those after them are left
abbrev pub invariant-loop-line : goal.invariant-loop-line
invariant-loop-line g l = record {
  files : (log : Contents) → (keys : List ℕ) → (gets : ℕ) → (moments : List ℕ) → Ahead
      (observation (g.S.Sink.contents l.fn.screen) log keys gets moments l.fn.steps l.fn.app)
      (observation (g.S.Sink.contents l.screen) log keys gets moments l.steps l.app)
      (file_trace g.A.Application.means (FILE_LINES - l._line) l.moment l.app)
      (file_trace g.A.Application.means FILE_LINES l.moment l.fn.app);
  faults : g.S.Sink.faults l.screen ≡ g.S.Sink.faults l.fn.screen;
}
