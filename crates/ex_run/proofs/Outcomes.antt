-- What the engine says of a run, and the outcome of its end.
-- How a run ends is a relation by cases on how it stopped (Closes), with one lemma a case. A clause without the
-- premises stands apart (cause). What an object tells is one word (scene, disk_of).
use Rattle.std.proofs.Common.{◌≡◌, ℕ, Bool, Result, refl, subst}
use Rattle.cm_io.specs.Contents.{Contents}
use Rattle.cm_io.specs.declared.status.Status.{Status}
use Rattle.cm_io.specs.declared.status.Status.TheVariants as status
use Rattle.cm_run.specs.Cut.{Traces}
use Rattle.cm_run.specs.Moments.{RunsTo}
use Rattle.cm_run.specs.Progress.{MeetSound}
use Rattle.cm_run.specs.Trace.{run_trace, starting}
use Rattle.cm_run.specs.declared.stop.Stop.{Stop}
use Rattle.ex_store.specs.State.{State}
use Rattle.ex_system.specs.Disk.{Disk}
use Rattle.ex_system.specs.Form.{Form}
use Rattle.ex_system.specs.Saving.{Saves}
use Rattle.ex_run.specs.Closing.{Closes}
use Rattle.ex_run.specs.Course.{Comes}
use Rattle.ex_run.specs.Over.{Over, has_ended}
use Rattle.ex_run.specs.Runs.{Runs}
use Rattle.ex_run.specs.Scene.{Scene, Telling, seen, with_screen}
use Rattle.ex_run.proofs.Causes.{closes_causes, closes_run}

module _ {S : Type 0} (known : Telling) (o : Over S) (form : Form) (start : State) (app left : S) (a at : Scene) (stop : Result Unit Stop)
    (begins : app ≡ o.begins start) (runs : Runs o.means form.logs known app left a at stop) where
  pub comes : (screen : Contents) (faults : ℕ) (ended : Bool) (state : State) (before now : Disk) (result : Status)
      → ended ≡ has_ended o left → state ≡ o.store_of left → Closes stop ended at.screen screen at.faults.screen faults result
      → (result ≡ status.Done → faults ≡ at.faults.screen) → Saves before now form.out state result
      → Comes known o form start a (with_screen at screen faults) before now result
  comes screen faults ended state before now result ends stores closes quiet saves = record {
    left = left;
    ran = record {
      stop = stop;
      at = at;
      traces = λ tells.
          subst (λ (it : S). Traces (seen a it) (seen at left) (run_trace o.means form.logs it a.moments a.keys) stop) begins (runs.traces tells);
      count = runs.count;
      cause = runs.cause;
      closes = subst (λ (it : Bool). Closes stop it at.screen screen at.faults.screen faults result) ends closes;
      rest = refl;
    };
    leads = λ tells outcome. subst (λ (it : S). RunsTo o.means it left a.keys at.keys) begins (runs.leads tells outcome);
    saves = subst (λ (it : State). Saves before now form.out it result) stores saves;
    cause = closes_causes a.faults at.faults at.screen screen faults result quiet stop ended runs.cause closes;
    is_run = closes_run stop ended at.screen screen at.faults.screen faults result closes;
    unlogged = runs.quiet;
    sound = λ tells first rest all.
        subst (λ (it : S). MeetSound o.means (starting o.means it a.moments) first) begins (runs.sound tells first rest all);
  }
