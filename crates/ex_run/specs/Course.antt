-- All that is known of a run over a store.
use Rattle.std.specs.Prelude.{◌≡◌, ◌⊎◌, ◌≤◌, ◌<◌, ◌+◌, ℕ, Bool, false, List, [], ◌++◌, length, Option, Some, None, IsTrue, Result, Ok}
use Rattle.cm_io.specs.Contents.{add}
use Rattle.cm_io.specs.declared.status.Status.{Status}
use Rattle.cm_io.specs.declared.status.Status.TheVariants as status
use Rattle.cm_run.specs.Cause.{KeyCount, RunCause}
use Rattle.cm_run.specs.Cut.{Traces}
use Rattle.cm_run.specs.Event.{log_bytes, trials_of}
use Rattle.cm_run.specs.Keeping.{KeepsLine}
use Rattle.cm_run.specs.Moments.{RunsTo}
use Rattle.cm_run.specs.Progress.{MeetSound}
use Rattle.cm_run.specs.Trace.{starting}
use Rattle.cm_run.specs.declared.stop.Stop.{Stop}
use Rattle.tt_screen.specs.Grid.{feed}
use Rattle.tt_screen.specs.Holds.{Holds}
use Rattle.ex_image.specs.Image.{image_text}
use Rattle.ex_store.specs.State.{State}
use Rattle.ex_system.specs.Disk.{Disk}
use Rattle.ex_system.specs.Form.{Form}
use Rattle.ex_system.specs.Messages.{message}
use Rattle.ex_system.specs.Quiet.{IsQuiet}
use Rattle.ex_system.specs.Saving.{HostCause, Saves}
use Rattle.ex_system.specs.Start.{Began, InputCause, IsEarly, IsLoaded, IsRun, Starts}
use Rattle.ex_system.specs.Trying.{Tried}
use Rattle.ex_run.specs.Cause.{StatusCause}
use Rattle.ex_run.specs.Closing.{Closes}
use Rattle.ex_run.specs.Over.{Over, has_ended, left_of, shown_of, trace_of}
use Rattle.ex_run.specs.Scene.{Scene, Tell, Telling, seen, with_screen}
use Rattle.ex_run.specs.declared.program.TheConstants.{KEY_LIMIT}

-- before the first prompt this text is tried on the screen, and nothing else is touched
pub record Shown (a b : Scene) (text : List ℕ) : Type 0 where
  pub screen : Tried a.screen b.screen a.faults.screen b.faults.screen [] text
  pub rest : b ≡ with_screen a b.screen b.faults.screen

-- the message of a status is
abbrev pub Refused : Scene → Scene → Status → Type 0
Refused a b result = Shown a b (message result)

-- the keys could not be read on, or as many were taken as a run takes
abbrev pub IsHalt : Status → Type 0
IsHalt result = (result ≡ status.ReadFault) ⊎ (result ≡ status.KeyLimit)

-- nothing outside has failed
pub record AreQuiet (a b : Scene) (before now : Disk) : Type 0 where
  pub screen : IsQuiet a.faults.screen b.faults.screen
  pub log : IsQuiet a.faults.log b.faults.log
  pub keys : IsQuiet a.faults.keys b.faults.keys
  pub host : IsQuiet before.faults now.faults

module _ {S : Type 0} where
  -- past it the run stopped so, and what was observed then is its trace, or a cut of it, as far as keys and clock tell;
  -- after that nothing but the screen is touched, which shows how the run is closed
  pub record Ran (known : Telling) (o : Over S) (form : Form) (start : State) (left : S) (a b : Scene) (result : Status)
      : Type 0 where
    pub stop : Result Unit Stop
    pub at : Scene
    pub traces : Tell known
        → Traces (seen a (o.begins start)) (seen at left) (trace_of o form.logs start a.moments a.keys) stop
    pub count : IsTrue known.keys → KeyCount KEY_LIMIT (length a.keys) (length at.keys) (has_ended o left) stop
    pub cause : RunCause a.faults at.faults stop
    pub closes : Closes stop (has_ended o left) at.screen b.screen at.faults.screen b.faults.screen result
    pub rest : b ≡ with_screen at b.screen b.faults.screen

  -- the run began in a state, and the image of the state that it left is written
  pub record Past (known : Telling) (o : Over S) (form : Form) (a b : Scene) (before now : Disk) (result : Status)
      : Type 0 where
    pub start : State
    pub left : S
    pub loaded : Disk
    pub begins : IsLoaded form.input before loaded × (loaded.faults ≡ before.faults) × Began before form.input start
    pub ran : Ran known o form start left a b result
    pub saves : Saves loaded now form.out (o.store_of left) result

  -- what is at the end of what was asked for so
  abbrev pub StandsBy : Telling → Over S → Form → Scene → Scene → Disk → Disk → Status → Type 0
  StandsBy known o form a b before now result =
      (IsEarly form.input result × Refused a b result × IsLoaded form.input before now)
      ⊎ Past known o form a b before now result

  -- of a run that was halted over these keys: the counter has risen by what their trials cost, and the application has
  -- not ended it
  pub record Halted (o : Over S) (form : Form) (start : State) (a b : Scene) (taken : List ℕ) : Type 0 where
    pub counted : b.trials ≡ a.trials + trials_of (trace_of o form.logs start a.moments taken)
    pub going : has_ended o (left_of o form.logs start a.moments taken) ≡ false

  -- of a run that is to begin over a store in this state, keys and clock telling. Where it is Done, the screen was
  -- given what the run over all keys shows, the log what it logs, the counter has risen by what all trials cost, and
  -- OUT holds the image of the state that the keys leave. The counter never rises by more than that. Where the run was
  -- halted, it was so over the keys taken. After each beginning of them the screen shows prompt and line
  pub record Follows (o : Over S) (form : Form) (start : State) (a b : Scene) (before now : Disk) (result : Status)
      : Type 0 where
    pub shown : result ≡ status.Done → b.screen ≡ add a.screen (shown_of o form.logs start a.moments a.keys)
    pub logged : result ≡ status.Done
        → b.log ≡ add a.log (log_bytes (trace_of o form.logs start a.moments a.keys))
    pub counted : result ≡ status.Done
        → b.trials ≡ a.trials + trials_of (trace_of o form.logs start a.moments a.keys)
    pub saved : IsTrue before.tells → result ≡ status.Done
        → now.files form.out ≡ Some (image_text (o.store_of (left_of o form.logs start a.moments a.keys)))
    pub most : b.trials ≤ a.trials + trials_of (trace_of o form.logs start a.moments a.keys)
    pub halted : IsHalt result → (taken : List ℕ) → taken ++ b.keys ≡ a.keys → Halted o form start a b taken
    pub on_screen : (taken rest : List ℕ) → (taken ++ rest) ++ b.keys ≡ a.keys
        → KeepsLine feed Holds o.means (o.begins start) a.moments taken

  -- of one of which the keys tell, where nothing outside failed: it is Done, or at the limit of keys KeyLimit, but for
  -- lack of memory. At the limit it is where the application has not ended it over so many keys, at the moments that a
  -- clock tells, or whatever the moments are
  pub record Finishes (known : Telling) (o : Over S) (form : Form) (start : State) (a b : Scene) (before now : Disk)
      (result : Status) : Type 0 where
    pub complete : length a.keys < KEY_LIMIT → AreQuiet a b before now
        → (result ≡ status.Done) ⊎ (result ≡ status.NoMemory)
    pub limit : (taken rest : List ℕ) → taken ++ rest ≡ a.keys → length taken ≡ KEY_LIMIT
        → ((moments : List ℕ) → (IsTrue known.clock → moments ≡ a.moments)
        → has_ended o (left_of o form.logs start moments taken) ≡ false) → AreQuiet a b before now
        → (result ≡ status.KeyLimit) ⊎ (result ≡ status.NoMemory)

  -- all that is known of the run that a form asks for: what stands, whatever the status; that nothing is asked of a log
  -- without one; when each status may come; and what follows where it is to begin in a state
  pub record Course (known : Telling) (o : Over S) (form : Form) (a b : Scene) (before now : Disk) (result : Status)
      : Type 0 where
    pub stands : StandsBy known o form a b before now result
    pub unlogged : form.logs ≡ false → (b.log ≡ a.log) × (b.faults.log ≡ a.faults.log)
    pub usage : result ≡ status.Usage → ⊥
    pub cause : StatusCause a.faults b.faults result
    pub host_cause : HostCause before.faults now.faults result
    pub start : InputCause before form.input result
    pub follows : Tell known → (start : State) → Starts before form.input start
        → Follows o form start a b before now result
    pub finishes : IsTrue known.keys → (start : State) → Starts before form.input start
        → Finishes known o form start a b before now result

  -- and of the run over a store alone, from the first prompt on
  pub record Comes (known : Telling) (o : Over S) (form : Form) (start : State) (a b : Scene) (before now : Disk)
      (result : Status) : Type 0 where
    pub left : S
    pub ran : Ran known o form start left a b result
    pub leads : IsTrue known.keys → ran.stop ≡ Ok tt → RunsTo o.means (o.begins start) left a.keys ran.at.keys
    pub saves : Saves before now form.out (o.store_of left) result
    pub cause : StatusCause a.faults b.faults result
    pub is_run : IsRun result
    pub unlogged : form.logs ≡ false → (b.log ≡ a.log) × (b.faults.log ≡ a.faults.log)
    pub sound : Tell known → (first rest : List ℕ) → (first ++ rest) ++ b.keys ≡ a.keys
        → MeetSound o.means (starting o.means (o.begins start) a.moments) first

-- what the words ask for, under which a run begins in this state
abbrev pub Asks : Option Form → Disk → Form → State → Type 0
Asks asked disk form start = (asked ≡ Some form) × Starts disk form.input start

-- whether there is a log
abbrev pub logs : Option Form → Bool
logs None = false
logs (Some form) = form.logs

-- by what the words ask for
abbrev pub StartCause : Disk → Option Form → Status → Type 0
StartCause disk None result = Unit {0}
StartCause disk (Some form) result = InputCause disk form.input result

module _ {S : Type 0} where
  -- all that is known by the words alone, whatever they ask for
  pub record Heads (known : Telling) (o : Over S) (asked : Option Form) (a b : Scene) (before now : Disk)
      (result : Status) : Type 0 where
    pub unlogged : logs asked ≡ false → (b.log ≡ a.log) × (b.faults.log ≡ a.faults.log)
    pub cause : StatusCause a.faults b.faults result
    pub host_cause : HostCause before.faults now.faults result
    pub start : StartCause before asked result
    pub follows : Tell known → (form : Form) → (start : State) → Asks asked before form start
        → Follows o form start a b before now result
    pub finishes : IsTrue known.keys → (form : Form) → (start : State) → Asks asked before form start
        → Finishes known o form start a b before now result
