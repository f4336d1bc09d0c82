-- What is at the end of a run of a control file.
use Rattle.std.specs.Prelude.{◌≡◌, ◌⊎◌, ◌≤◌, ◌+◌, ℕ, false, List, [], ◌∷◌, ◌++◌, codes, Option, Some, None, Result, Ok, Err, IsTrue}
use Rattle.cm_text.specs.ScreenBytes.{end_of_line}
use Rattle.cm_fields.specs.declared.code.Code.{Code}
use Rattle.cm_io.specs.Fault.{Rose}
use Rattle.cm_io.specs.Contents.{Contents, Nothing}
use Rattle.cm_io.specs.Words.{Given}
use Rattle.cm_io.specs.declared.clock.Clock.{Ghosts as Clocks}
use Rattle.cm_io.specs.declared.sink.Sink.{Ghosts as Sinks}
use Rattle.cm_io.specs.declared.status.Status.{Status}
use Rattle.cm_io.specs.declared.status.Status.TheVariants as status
use Rattle.cm_state.specs.Echo.{refusal}
use Rattle.cm_run.specs.Cause.{ObeyCause}
use Rattle.cm_run.specs.Event.{screen_bytes, state_after, trials_of}
use Rattle.cm_run.specs.Observation.{Observation, observation}
use Rattle.cm_run.specs.declared.stop.Stop.{Stop}
use Rattle.cm_run.specs.declared.stop.Stop.TheVariants as stop
use Rattle.ex_image.specs.Image.{image_text}
use Rattle.ex_store.specs.State.{State}
use Rattle.ex_system.specs.Disk.{Disk}
use Rattle.ex_system.specs.Form.{Form, Three, in_out, triple_of}
use Rattle.ex_system.specs.Messages.{message}
use Rattle.ex_system.specs.Quiet.{IsQuiet}
use Rattle.ex_system.specs.Saving.{HostCause, IsOr, Saves}
use Rattle.ex_system.specs.Start.{Began, InputCause, IsEarly, IsLoaded, Starts}
use Rattle.ex_system.specs.Trying.{Tried}
use Rattle.ex_take.specs.ExecState.{ExecState, exec_start}
use Rattle.ex_batch.specs.Moments.{OfMoments}
use Rattle.ex_batch.specs.Takes.{Runs, step_outcome}
use Rattle.ex_batch.specs.Whole.{whole_of}
use Rattle.ex_batch.specs.declared.step.Ended.{Ended}
use Rattle.ex_batch.specs.declared.step.Ended.TheVariants as ended

-- two files, and a word that names a third
pub record JobForm : Type 0 where
  pub form : Form
  pub file : List ℕ

-- the words are IN OUT FILE
abbrev pub with_file : List ℕ → Option Form → Option JobForm
with_file file None = None
with_file [] (Some form) = None
with_file (byte ∷ bytes) (Some form) = Some (record { form = form; file = byte ∷ bytes })

abbrev pub form_by : Option Three → Option JobForm
form_by None = None
form_by (Some three) = with_file three.third (in_out false three.first three.second)

unfoldable pub form_of : Given → Option JobForm
form_of words = form_by (triple_of words)

-- what is shown where they are others
unfoldable pub usage : List ℕ
usage = codes "Usage: batch20 IN OUT FILE"

-- what the objects outside tell at one moment, and the counter of trials; the host is told of apart
pub record Scene : Type 0 where
  pub screen : Contents
  pub faults : ℕ
  pub moments : List ℕ
  pub trials : ℕ

abbrev pub scene : {S C : Type 0} → Sinks S → S → Clocks C → C → ℕ → Scene
scene s screen c clock trials =
    record { screen = s.contents screen; faults = s.faults screen; moments = c.left clock; trials = trials }

-- what is observed where these moments are to come and the EXEC is in this state: there is no log, and there are no
-- keys
abbrev pub seen : Scene → List ℕ → ExecState → Observation ExecState
seen at moments state = observation at.screen Nothing [] 0 moments at.trials state

-- the screen alone has changed
abbrev pub with_screen : Scene → Contents → ℕ → Scene
with_screen at screen faults = record at { screen = screen; faults = faults }

-- the status of a run that went so. Only the screen and lack of memory cut one short
abbrev pub end_status : Ended → Status
end_status ended.Finished = status.Done
end_status (ended.Stopped code) = status.Stopped

abbrev pub status_of : Result Ended Stop → Status
status_of (Ok end) = end_status end
status_of (Err stop.Memory) = status.NoMemory
status_of (Err why) = status.WriteFault

-- why it was stopped, where that is what its status says
abbrev pub code_of : Ended → Status → Option Code
code_of (ended.Stopped code) status.Stopped = Some code
code_of end result = None

abbrev pub stop_of : Result Ended Stop → Status → Option Code
stop_of (Ok end) result = code_of end result
stop_of (Err why) result = None

-- what is shown after the save: why it was stopped, or the message of the status
abbrev pub closing_by : Option Code → Status → List ℕ
closing_by None result = message result
closing_by (Some code) result = refusal code

abbrev pub closing : Result Ended Stop → Status → List ℕ
closing how result = closing_by (stop_of how result) result

-- nothing is shown where the run is Done
abbrev pub ClosesQuietly : Contents → Contents → ℕ → ℕ → Status → Type 0
ClosesQuietly before now f g status.Done = (now ≡ before) × (g ≡ f)
ClosesQuietly before now f g result = Unit {0}

-- that is shown; on a screen that has failed nothing is, whatever the status
abbrev pub ShowsEnd : Result Ended Stop → Contents → Contents → ℕ → ℕ → Status → Type 0
ShowsEnd (Err stop.Screen) before now f g result = (now ≡ before) × (g ≡ f)
ShowsEnd how before now f g result = Tried before now f g [] (closing how result)

-- a run that went so is closed: it ends with its status, or with HostFault in its place, and that is shown
pub record Closes (how : Result Ended Stop) (before now : Contents) (f g : ℕ) (result : Status) : Type 0 where
  pub ends : IsOr result (status_of how)
  pub shown : ShowsEnd how before now f g result
  pub quiet : ClosesQuietly before now f g result

-- before any line a text is tried on the screen, and nothing else is touched
pub record Shown (a b : Scene) (text : List ℕ) : Type 0 where
  pub screen : Tried a.screen b.screen a.faults b.faults [] text
  pub rest : b ≡ with_screen a b.screen b.faults

-- the file was run from this state on: what was observed is the whole run over some moments, those of the clock where
-- it tells, or a cut of it
pub record Ran (known : Type 0) (file : List ℕ) (start : State) (left : ExecState) (how : Result Ended Stop)
    (a b : Scene) : Type 0 where
  pub given : List ℕ
  pub later : List ℕ
  pub own : known → (given ≡ a.moments) × (later ≡ b.moments)
  pub runs : Runs (seen a given (exec_start start)) (seen b later left) (whole_of start file given) how
  pub cause : ObeyCause a.faults b.faults (step_outcome how)

-- the run began in a state, and the image of the state that it left is written; then how it went is shown
pub record Past (known : Type 0) (asked : JobForm) (a b : Scene) (before now : Disk) (result : Status) : Type 0 where
  pub start : State
  pub left : ExecState
  pub how : Result Ended Stop
  pub at : Scene
  pub loaded : Disk
  pub begins : IsLoaded asked.form.input before loaded × (loaded.faults ≡ before.faults)
      × Began before asked.form.input start
  pub ran : Ran known asked.file start left how a at
  pub closes : Closes how at.screen b.screen at.faults b.faults result
  pub rest : b ≡ with_screen at b.screen b.faults
  pub saves : Saves loaded now asked.form.out left.interpreter.state result

-- what is at the end of what was asked for so
abbrev pub StandsBy : Type 0 → JobForm → Scene → Scene → Disk → Disk → Status → Type 0
StandsBy known asked a b before now result =
    (IsEarly asked.form.input result × Shown a b (message result) × IsLoaded asked.form.input before now)
    ⊎ Past known asked a b before now result

abbrev pub Stands : Type 0 → Option JobForm → Scene → Scene → Disk → Disk → Status → Type 0
Stands known None a b before now result =
    (result ≡ status.Usage) × Shown a b (usage ++ end_of_line) × (now ≡ before)
Stands known (Some asked) a b before now result = StandsBy known asked a b before now result

-- the words ask for this form, under which a run begins in this state
abbrev pub Asks : Option JobForm → Disk → JobForm → State → Type 0
Asks asked disk form start = (asked ≡ Some form) × Starts disk form.form.input start

-- by what the words ask for
abbrev pub StartCause : Disk → Option JobForm → Status → Type 0
StartCause disk None result = Unit {0}
StartCause disk (Some asked) result = InputCause disk asked.form.input result

-- the screen's count of faults rose where the status is WriteFault, and stayed where it is Done
abbrev pub ScreenCause : ℕ → ℕ → Status → Type 0
ScreenCause before now status.WriteFault = Rose before now
ScreenCause before now status.Done = now ≡ before
ScreenCause before now result = Unit {0}

-- the statuses that a run may end with
abbrev pub IsBatch : Status → Type 0
IsBatch status.ReadFault = ⊥
IsBatch status.KeyLimit = ⊥
IsBatch result = Unit {0}

-- the run went to its end, and the image is written
abbrev pub IsWhole : Status → Type 0
IsWhole status.Done = Unit {0}
IsWhole status.Stopped = Unit {0}
IsWhole result = ⊥

-- what is shown after the lines of a run that ended so
abbrev pub end_text : Ended → List ℕ
end_text ended.Finished = []
end_text (ended.Stopped code) = refusal code

-- of a run that begins in this state, over these moments. Where it is Done or Stopped it is that, by how the whole run
-- ends; the screen was given all that the run shows, and then why it was stopped, or a prefix of that where the screen
-- fails there; the counter has risen by what its trials cost, and OUT holds the image of the state that it leaves. In
-- each case the counter has risen by no more. Where nothing outside failed it is that, or NoMemory
pub record Follows (file out : List ℕ) (start : State) (a b : Scene) (before now : Disk) (result : Status)
    (moments : List ℕ) : Type 0 where
  pub ends : IsWhole result → result ≡ end_status (whole_of start file moments).end
  pub shown : IsWhole result → Tried a.screen b.screen a.faults b.faults
      (screen_bytes (whole_of start file moments).events) (end_text (whole_of start file moments).end)
  pub counted : IsWhole result → b.trials ≡ a.trials + trials_of (whole_of start file moments).events
  pub saved : IsWhole result → IsTrue before.tells
      → now.files out
      ≡ Some (image_text (state_after (exec_start start) (whole_of start file moments).events).interpreter.state)
  pub most : b.trials ≤ a.trials + trials_of (whole_of start file moments).events
  pub complete : IsQuiet a.faults b.faults → IsQuiet before.faults now.faults
      → (result ≡ end_status (whole_of start file moments).end) ⊎ (result ≡ status.NoMemory)

-- all that is known of the run that a form asks for
pub record Course (known : Type 0) (asked : JobForm) (a b : Scene) (before now : Disk) (result : Status) : Type 0 where
  pub stands : StandsBy known asked a b before now result
  pub batch : IsBatch result
  pub usage : result ≡ status.Usage → ⊥
  pub cause : ScreenCause a.faults b.faults result
  pub host_cause : HostCause before.faults now.faults result
  pub start : InputCause before asked.form.input result
  pub follows : (start : State) → Starts before asked.form.input start
      → OfMoments known a.moments (Follows asked.file asked.form.out start a b before now result)
