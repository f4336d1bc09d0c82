-- What the engine says of a run.
use Rattle.std.specs.Prelude.{◌≡◌, ℕ, Bool, false, List, ◌++◌, length, IsTrue, Result, Ok}
use Rattle.cm_run.specs.Cause.{KeyCount, RunCause}
use Rattle.cm_run.specs.Cut.{Traces}
use Rattle.cm_run.specs.Semantics.{Semantics}
use Rattle.cm_run.specs.Moments.{RunsTo}
use Rattle.cm_run.specs.Progress.{MeetSound}
use Rattle.cm_run.specs.Trace.{is_ended, run_trace, starting}
use Rattle.cm_run.specs.declared.stop.Stop.{Stop}
use Rattle.ex_run.specs.Scene.{Scene, Tell, Telling, seen}
use Rattle.ex_run.specs.declared.program.TheConstants.{KEY_LIMIT}

-- an application has run from one moment to another: all that the engine says of it, as one fact
pub record Runs {S : Type 0} (m : Semantics S) (logging : Bool) (known : Telling) (before left : S) (a b : Scene)
    (result : Result Unit Stop) : Type 0 where
  pub traces : Tell known → Traces (seen a before) (seen b left) (run_trace m logging before a.moments a.keys) result
  pub count : IsTrue known.keys → KeyCount KEY_LIMIT (length a.keys) (length b.keys) (is_ended (m.mode_of left)) result
  pub leads : IsTrue known.keys → result ≡ Ok tt → RunsTo m before left a.keys b.keys
  pub cause : RunCause a.faults b.faults result
  pub quiet : logging ≡ false → (b.log ≡ a.log) × (b.faults.log ≡ a.faults.log)
  pub sound : Tell known → (first rest : List ℕ) → (first ++ rest) ++ b.keys ≡ a.keys
      → MeetSound m (starting m before a.moments) first
