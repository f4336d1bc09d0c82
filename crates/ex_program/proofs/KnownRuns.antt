-- What is known of a run of the EXEC, by the words alone.
use Rattle.std.proofs.Common.{◌≡◌, ◌↔◌, ℕ, ◌++◌, Bool, true, false, List, Option, None, Some, IsTrue, refl, sym, ap, ◌∙◌, subst}
use Rattle.cm_io.specs.declared.status.Status.{Status}
use Rattle.cm_io.specs.declared.status.Status.TheVariants as status
use Rattle.cm_run.specs.Event.{screen_bytes}
use Rattle.cm_run.specs.Trace.{is_ended}
use Rattle.ex_store.specs.State.{State}
use Rattle.ex_system.specs.Disk.{Disk}
use Rattle.ex_system.specs.Form.{Form}
use Rattle.ex_system.specs.Start.{Began, InputCause, IsRun}
use Rattle.ex_system.proofs.SaveLaws.{saved_image}
use Rattle.ex_system.proofs.Starts.{from_image, one_image}
use Rattle.ex_run.specs.Course.{Past, StandsBy}
use Rattle.ex_run.specs.Over.{closing, has_ended, shown_of}
use Rattle.ex_run.specs.Scene.{Scene, Telling}
use Rattle.ex_run.proofs.Words.{heads}
use Rattle.ex_take.specs.ExecState.{ExecState}
use Rattle.ex_take.specs.Interpreter.{mode_by}
use Rattle.ex_take.specs.declared.pending.Pending.{Pending}
use Rattle.ex_take.specs.declared.typing.Typing.{Typing}
use Rattle.ex_program.specs.ExecRun.{exec_left, exec_over, exec_trace, run_shown}
use Rattle.ex_program.specs.RunEnd.{Stands}
use Rattle.ex_program.proofs.GeneratedRuns.{generated_counted, generated_most, stands_generated}

-- the EXEC has ended the run where LOGOUT has acted
ended_by : (ended : Bool) (typing : Option Typing) (pending : Option Pending) → is_ended (mode_by ended typing pending) ≡ ended
ended_by true typing pending = refl
ended_by false None None = refl
ended_by false None (Some pending) = refl
ended_by false (Some typing) pending = refl

pub ended_where : (at : ExecState) → has_ended exec_over at ≡ at.interpreter.ended
ended_where at = ended_by at.interpreter.ended at.interpreter.typing at.interpreter.pending

pub shown_where : (logging : Bool) (start : State) (moments keys : List ℕ)
    → shown_of exec_over logging start moments keys ≡ run_shown logging start moments keys
shown_where logging start moments keys =
    ap (λ (ended : Bool). screen_bytes (exec_trace logging start moments keys) ++ closing ended) (ended_where (exec_left logging start moments keys))

-- a status that is not Usage, where the words have a form
pub no_usage : (asked : Option Form) (lines : Option ℕ) (form : Form) (result : Status) → Some form ≡ asked → (result ≡ status.Usage → ⊥)
    → (result ≡ status.Usage) ↔ ((asked ≡ None) × (lines ≡ None))
no_usage asked lines form result is other = (λ same. absurd (other same), λ none. let wrong : Some form ≡ None = is ∙ none.0 in absurd (cc))

-- what stands, by what the words ask for
pub stands_asked : (known : Telling) (asked : Option Form) (lines : Option ℕ) (form : Form) (a b : Scene) (before now : Disk) (result : Status)
    → Some form ≡ asked → StandsBy known exec_over form a b before now result → Stands known asked lines a b before now result
stands_asked known asked lines form a b before now result is stands =
    subst (λ (it : Option Form). Stands known it lines a b before now result) is stands

-- what `exec20` says of a run, clause by clause
pub ruleset known_run =
    (heads, ended_where, generated_counted, generated_most, no_usage, shown_where, stands_asked, stands_generated)

-- what one run saved the next reads
module _ (known : Telling) where
  loaded_tells : (form : Form) (a b : Scene) (before now : Disk) (result : Status) (run : Past known exec_over form a b before now result)
      → IsTrue before.tells → IsTrue run.loaded.tells
  loaded_tells form a b before now result run tells = subst (λ (it : Bool). IsTrue it) (sym run.begins.0.tells) tells

  pub read_again : (form next : Form) (a b c d : Scene) (before now later last : Disk) (result other : Status)
      → (run : Past known exec_over form a b before now result) → (again : Past known exec_over next c d later last other)
      → (result ≡ status.HostFault → ⊥) → IsTrue before.tells → IsTrue later.tells → next.input ≡ Some form.out
      → later.files form.out ≡ now.files form.out → again.start ≡ run.left.interpreter.state
  read_again form next a b c d before now later last result other run again outcome tells reads same stays =
      let began : Began later (Some form.out) again.start =
      subst (λ (it : Option (List ℕ)). Began later it again.start) same again.begins.2 in
      one_image (later.files form.out) again.start run.left.interpreter.state (began reads)
      (saved_image run.loaded now later form.out run.left.interpreter.state result run.saves outcome
      (loaded_tells form a b before now result run tells) stays)

  pub taken_again : (form : Form) (a b : Scene) (before now later : Disk) (result other : Status)
      → Past known exec_over form a b before now result → (result ≡ status.HostFault → ⊥) → IsTrue before.tells → IsTrue later.tells
      → later.files form.out ≡ now.files form.out → InputCause later (Some form.out) other → IsRun other
  taken_again form a b before now later result other run outcome tells reads stays cause =
      from_image (later.files form.out) run.left.interpreter.state other
      (saved_image run.loaded now later form.out run.left.interpreter.state result run.saves outcome
      (loaded_tells form a b before now result run tells) stays)
      (cause reads)
