-- Lines of the EXEC's that are typed one after the other, and a control file of the same lines.
use Rattle.std.specs.Prelude.{◌≡◌, ℕ, Bool, false, List, [], ◌∷◌, ◌++◌, map, None, if◌then◌else◌}
use Rattle.std.specs.List.{flat_map}
use Rattle.cm_text.specs.ScreenBytes.{end_of_line, screen_byte}
use Rattle.cm_text.specs.Text.{finished}
use Rattle.cm_io.specs.Clock.{next_moment}
use Rattle.cm_blocks.specs.KeptParse.{cost}
use Rattle.cm_blocks.specs.declared.field.Ending.TheVariants as endings
use Rattle.cm_state.specs.Echo.{prompt_text}
use Rattle.cm_state.specs.declared.prompt.Prompt.TheVariants.{Main}
use Rattle.cm_run.specs.Event.{Event, Moment, Screen, Trials, moments_after, screen_bytes, state_after, trials_of}
use Rattle.cm_run.specs.Semantics.{setting_of}
use Rattle.cm_run.specs.Progress.{progress}
use Rattle.cm_run.specs.Trace.{file_session, line_trace, node_of, run_trace, starting}
use Rattle.ex_take.specs.Exec.{exec_semantics}
use Rattle.ex_take.specs.ExecState.{ExecState}
use Rattle.ex_batch.specs.Control.{Exec, Plain, control_of}
use Rattle.ex_batch.specs.Batch.{Batch, shown, text_trace}
use Rattle.ex_batch.specs.declared.step.Ended.TheVariants.{Finished}

-- a line, and its outcome
pub record TypedLine : Type 0 where
  pub text : List ℕ
  pub events : List (Event ExecState)

-- where a line is typed and confirmed it takes a moment, and does what it does, with the command files that it takes.
-- The trials are those of the whole line at once, and nothing is shown of the line
abbrev pub typed_events : List ℕ → ExecState → List ℕ → List (Event ExecState)
typed_events moments at text =
    Moment ∷ Trials (cost (setting_of exec_semantics at) (node_of (exec_semantics.mode_of at)) [] (finished text))
    ∷ line_trace exec_semantics at (file_session exec_semantics at text) (next_moment moments)

-- one after the other, until LOGOUT has acted
unfoldable pub typed_lines : List ℕ → ExecState → List (List ℕ) → List TypedLine
typed_lines moments at [] = []
typed_lines moments at (text ∷ texts) =
    let events = typed_events moments at text in
    record { text = text; events = events }
    ∷ (if (state_after at events).interpreter.ended then []
    else typed_lines (moments_after moments events) (state_after at events) texts)

-- the same line in a control file: after `@`
abbrev pub in_file : List ℕ → List ℕ
in_file text = 64 ∷ text

-- its outcome there, after what is shown of it
abbrev pub file_events : List ℕ → ExecState → List ℕ → List (Event ExecState)
file_events moments at text = Moment ∷ text_trace (next_moment moments) at text

-- it is one of the EXEC's, its parse is done, and it is not refused
pub record IsAccepted (moments : List ℕ) (at : ExecState) (text : List ℕ) : Type 0 where
  pub order : control_of (in_file text) ≡ Plain (Exec text)
  pub parse : (file_session exec_semantics at text).ending ≡ endings.Done
  pub kept : (state_after at (file_events moments at text)).stop ≡ None

-- so is each where it comes, as far as the run goes on
unfoldable pub AreAccepted : List ℕ → ExecState → List (List ℕ) → Type 0
AreAccepted moments at [] = Unit {0}
AreAccepted moments at (text ∷ texts) =
    let events = file_events moments at text in
    IsAccepted moments at text
    × ((state_after at events).interpreter.ended ≡ false
    → AreAccepted (moments_after moments events) (state_after at events) texts)

-- all that happens of typed lines, and the same with each line shown before it
abbrev pub all_events : List TypedLine → List (Event ExecState)
all_events lines = flat_map (λ (line : TypedLine). line.events) lines

abbrev pub shown_events : List TypedLine → List (Event ExecState)
shown_events lines = flat_map (λ (line : TypedLine). Screen (shown (in_file line.text)) ∷ line.events) lines

-- a run over a control file does what typed lines do, but for what is shown of them
pub record ComesTo (clock : List ℕ) (at : ExecState) (lines : List TypedLine) (batch : Batch) : Type 0 where
  pub end : batch.end ≡ Finished
  pub events : batch.events ≡ shown_events lines
  pub state : state_after at batch.events ≡ state_after at (all_events lines)
  pub moments : moments_after clock batch.events ≡ moments_after clock (all_events lines)
  pub trials : trials_of batch.events ≡ trials_of (all_events lines)

-- the keys with which lines are typed, each ended by a carriage return
abbrev pub line_keys : List (List ℕ) → List ℕ
line_keys texts = flat_map finished texts

-- what is shown of a line that is typed: the prompt, its echo, and its outcome
abbrev pub typed_bytes : TypedLine → List ℕ
typed_bytes line = prompt_text Main ++ (map screen_byte line.text ++ (end_of_line ++ screen_bytes line.events))

-- and in a control file
abbrev pub file_bytes : TypedLine → List ℕ
file_bytes line = shown (in_file line.text) ++ screen_bytes line.events

-- after the last line the next prompt, but after LOGOUT none
abbrev pub last_prompt : ExecState → List ℕ
last_prompt at = if at.interpreter.ended then [] else prompt_text Main

-- the run over the keys of lines leaves what a control file of them leaves, and takes as many moments; both show the
-- same of all that happens of the lines
pub record RunsAlike (clock : List ℕ) (at : ExecState) (logging : Bool) (texts : List (List ℕ)) (batch : Batch)
    : Type 0 where
  pub state : state_after at (run_trace exec_semantics logging at clock (line_keys texts)) ≡ state_after at batch.events
  pub moments : (progress exec_semantics (starting exec_semantics at clock) (line_keys texts)).moments
      ≡ moments_after clock batch.events
  pub typed : screen_bytes (run_trace exec_semantics logging at clock (line_keys texts))
      ≡ flat_map typed_bytes (typed_lines clock at texts) ++ last_prompt (state_after at batch.events)
  pub shown : screen_bytes batch.events ≡ flat_map file_bytes (typed_lines clock at texts)
