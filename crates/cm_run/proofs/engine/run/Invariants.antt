use Rattle.std.proofs.Common.{◌≡◌, ◌+◌, ◌≤◌, false, length, IsTrue}
use Rattle.cm_run.specs.Observation.{observation}
use Rattle.cm_run.specs.Ready.{IsReadyIn}
use Rattle.cm_run.specs.Trace.{is_ended, keys_trace, run_state, run_trace, starting, unless}
use Rattle.cm_run.proofs.MomentLaws.{Gone}
use Rattle.cm_run.proofs.Progress.{RunSoFar}
use Rattle.cm_run.proofs.Course.{Ahead}
use Rattle.cm_run.proofs.engine.run.Given as goal

-- the keys so far have happened, those after them are left, and no fault was counted
abbrev pub invariant-loop-turn : goal.invariant-loop-turn
invariant-loop-turn g l = record {
  ahead : IsTrue g.K.Source.tells → IsTrue g.C.Clock.tells → Ahead
      (observation (g.S.Sink.contents l.fn.screen) (g.W.Sink.contents l.fn.log) (g.K.Source.left l.fn.keys) (g.K.Source.gets l.fn.keys)
      (g.C.Clock.left l.fn.clock) l.fn.steps l.fn.app)
      (observation (g.S.Sink.contents l.screen) (g.W.Sink.contents l.log) (g.K.Source.left l.keys) (g.K.Source.gets l.keys)
      (g.C.Clock.left l.clock) l.steps l.app)
      (unless (is_ended (g.A.Application.means.mode_of l.app))
      (keys_trace g.A.Application.means l.logging (run_state l.session l.app (g.C.Clock.left l.clock)) (g.K.Source.left l.keys)))
      (run_trace g.A.Application.means l.logging l.fn.app (g.C.Clock.left l.fn.clock) (g.K.Source.left l.fn.keys));
  ready : IsReadyIn g.A.Application.means l.app l.session;
  count : IsTrue g.K.Source.tells → length (g.K.Source.left l.fn.keys) ≡ length (g.K.Source.left l.keys) + l._turn;
  asked : g.K.Source.gets l.keys ≤ g.K.Source.gets l.fn.keys + l._turn;
  screen : g.S.Sink.faults l.screen ≡ g.S.Sink.faults l.fn.screen;
  log : g.W.Sink.faults l.log ≡ g.W.Sink.faults l.fn.log;
  keys : g.K.Source.faults l.keys ≡ g.K.Source.faults l.fn.keys;
  so_far : IsTrue g.K.Source.tells → IsTrue g.C.Clock.tells → RunSoFar g.A.Application.means
      (starting g.A.Application.means l.fn.app (g.C.Clock.left l.fn.clock)) (run_state l.session l.app (g.C.Clock.left l.clock))
      (g.K.Source.left l.fn.keys) (g.K.Source.left l.keys);
  gone : IsTrue g.K.Source.tells → Gone g.A.Application.means l.fn.app l.session l.app (g.K.Source.left l.fn.keys) (g.K.Source.left l.keys);
  quiet : l.logging ≡ false → g.W.Sink.contents l.log ≡ g.W.Sink.contents l.fn.log;
}
