-- The trace of a run: what happens at each key, in order.
use Rattle.std.specs.Prelude.{ℕ, zero, suc, Bool, true, false, List, [], ◌∷◌, ◌++◌, Option, None, Some, codes}
use Rattle.std.specs.List.{flat_map}
use Rattle.cm_text.specs.Text.{finished}
use Rattle.cm_io.specs.Clock.{later_moments, next_moment}
use Rattle.cm_io.specs.Pieces.{hex}
use Rattle.cm_line.specs.declared.key.KeyClass.TheVariants as classes
use Rattle.cm_line.specs.Keys.{class_at}
use Rattle.cm_blocks.specs.KeptParse.{cost}
use Rattle.cm_state.specs.Echo.{echo, prompt_text}
use Rattle.cm_state.specs.Edit.{edited, edited_as}
use Rattle.cm_state.specs.Log.{log_line}
use Rattle.cm_state.specs.SessionState.{SessionState, at_start, line_before, text_of}
use Rattle.cm_state.specs.Turn.{turn_of}
use Rattle.cm_state.specs.declared.prompt.Prompt.TheVariants.{Main}
use Rattle.cm_state.specs.declared.turn.Turn.{Turn}
use Rattle.cm_state.specs.declared.turn.Turn.TheVariants as turn
use Rattle.cm_run.specs.declared.mode.Mode.{Mode}
use Rattle.cm_run.specs.declared.mode.Mode.TheVariants as mode
use Rattle.cm_run.specs.declared.engine.TheConstants.{FILE_LINES}
use Rattle.cm_run.specs.Event.{Event, Ask, Key, End, Trials, Screen, Log, Moment, Memory, Act, state_after}
use Rattle.cm_run.specs.Semantics.{Effect, Semantics, setting_of}

-- the line under edit, the state of the application, and the moments to come
pub record RunState (S : Type 0) : Type 0 where
  pub session : SessionState
  pub state : S
  pub moments : List ℕ

abbrev pub run_state : {S : Type 0} → SessionState → S → List ℕ → RunState S
run_state session state moments = record { session = session; state = state; moments = moments }

-- these events, where the test holds
abbrev pub events_if : {S : Type 0} → Bool → List (Event S) → List (Event S)
events_if true events = events
events_if false events = []

-- an act: memory is asked for where it may allocate, it is done, and its reply is shown
abbrev pub effect_trace : {S : Type 0} → Effect S → List (Event S)
effect_trace effect = events_if effect.may_allocate (Memory ∷ []) ++ (Act effect.state ∷ Screen effect.reply ∷ [])

-- acts in order
unfoldable pub effects_trace : {S : Type 0} → List (Effect S) → List (Event S)
effects_trace effects = flat_map effect_trace effects

-- the node at which a line begins
abbrev pub node_of : Mode → ℕ
node_of (mode.Line node prompt takes_moment) = node
node_of mode.Raw = 0
node_of mode.Ended = 0

-- a line that is confirmed takes a moment
abbrev pub takes_moment : Mode → Bool
takes_moment (mode.Line node prompt takes) = takes
takes_moment mode.Raw = false
takes_moment mode.Ended = false

-- a line begins: its prompt is shown; where the next key is for no line, nothing is
abbrev pub opening : {S : Type 0} → Mode → List (Event S)
opening (mode.Line node prompt takes_moment) = Screen (prompt_text prompt) ∷ []
opening mode.Raw = []
opening mode.Ended = []

-- and the session is at its start; what control-H brings back stays
abbrev pub line_start : Mode → SessionState → SessionState
line_start (mode.Line node prompt takes_moment) session = at_start node prompt session.recall
line_start mode.Raw session = session
line_start mode.Ended session = session

-- a session that has read a line of a command file, and finished it whatever its last byte
abbrev pub file_session : {S : Type 0} → Semantics S → S → List ℕ → SessionState
file_session m state line =
    edited_as (setting_of m state) (record (at_start (node_of (m.mode_of state)) Main None) { line = line })
    classes.End 13

-- the line that is taken next, where the next key is for a line and one waits
abbrev pub line_by : Mode → Option (List ℕ) → Option (List ℕ)
line_by (mode.Line node prompt takes_moment) line = line
line_by mode.Raw line = None
line_by mode.Ended line = None

abbrev pub next_line : {S : Type 0} → Semantics S → S → Option (List ℕ)
next_line m state = line_by (m.mode_of state) (m.file_line state)

-- a line of a command file, parsed under the state that it finds
abbrev pub file_line_trace : {S : Type 0} → Semantics S → ℕ → S → Option (List ℕ) → List (Event S)
file_line_trace m moment state None = []
file_line_trace m moment state (Some line) =
    Trials (cost (setting_of m state) (node_of (m.mode_of state)) [] (finished line))
    ∷ effects_trace (m.file_line_effects state (file_session m state line) moment)

-- the lines of command files that wait, at most so many
unfoldable pub file_trace : {S : Type 0} → Semantics S → ℕ → ℕ → S → List (Event S)
file_trace m zero moment state = []
file_trace m (suc lines) moment state =
    let events = file_line_trace m moment state (next_line m state) in
    events ++ file_trace m lines moment (state_after state events)

-- a line that is confirmed acts, and then the lines of the command files that it takes
unfoldable pub line_trace : {S : Type 0} → Semantics S → S → SessionState → ℕ → List (Event S)
line_trace m state session moment =
    let acts = effects_trace (m.line_effects state session moment) in
    acts ++ file_trace m FILE_LINES moment (state_after state acts)

-- the outcome of a key after its echo and its log line: whether it takes a moment, what happens, and whether the next
-- line begins
pub record Outcome (S : Type 0) : Type 0 where
  pub takes_moment : Bool
  pub events : List (Event S)
  pub begins : Bool

-- the moment of a line, and those to come after it: the next of the clock where it takes one
abbrev pub moment_if : Bool → List ℕ → ℕ
moment_if true moments = next_moment moments
moment_if false moments = 0

abbrev pub moments_later : Bool → List ℕ → List ℕ
moments_later true moments = later_moments moments
moments_later false moments = moments

abbrev pub moment_at : {S : Type 0} → Semantics S → S → List ℕ → ℕ
moment_at m state moments = moment_if (takes_moment (m.mode_of state)) moments

-- [confirmation] the outcome of a line; only a confirmed line acts
unfoldable pub turn_outcome : {S : Type 0} → Semantics S → S → SessionState → ℕ → Turn → Outcome S
turn_outcome m state session moment turn.Confirmed = record {
  takes_moment = takes_moment (m.mode_of state);
  events = line_trace m state session moment;
  begins = true;
}
turn_outcome m state session moment (turn.Refused fault) =
    record { takes_moment = false; events = Act (m.refusal state) ∷ []; begins = true }
turn_outcome m state session moment turn.Abandoned =
    record { takes_moment = false; events = Act (m.abandonment state) ∷ []; begins = true }
turn_outcome m state session moment turn.Edited = record { takes_moment = false; events = []; begins = false }
turn_outcome m state session moment turn.Failed = record { takes_moment = false; events = []; begins = false }

-- a raw key is logged as `KEY data`
unfoldable pub raw_mark : List ℕ
raw_mark = codes " data" ++ 10 ∷ []

unfoldable pub raw_log : ℕ → List ℕ
raw_log key = hex key ++ raw_mark

-- what one key does: the trials it costs, its echo, its line of the log, the session that it leaves, and what it comes
-- to
pub record Keystroke (S : Type 0) : Type 0 where
  pub cost : ℕ
  pub echo : List ℕ
  pub log : List ℕ
  pub session : SessionState
  pub outcome : Outcome S

-- a key of a line edits it
unfoldable pub line_keystroke : {S : Type 0} → Semantics S → RunState S → ℕ → Keystroke S
line_keystroke m at key =
    let under = setting_of m at.state in
    let session = edited under at.session key in
    record {
      cost = cost under at.session.node (line_before at.session) (text_of session);
      echo = echo under at.session key;
      log = log_line key session;
      session = session;
      outcome = turn_outcome m at.state session (moment_at m at.state at.moments)
          (turn_of (class_at (line_before at.session) key) session.ending);
    }

-- a raw key is taken as it is
unfoldable pub raw_keystroke : {S : Type 0} → Semantics S → RunState S → ℕ → Keystroke S
raw_keystroke m at key = record {
  cost = 0;
  echo = m.raw_echo at.state key;
  log = raw_log key;
  session = at.session;
  outcome = record { takes_moment = false; events = effects_trace (m.raw_effects at.state key); begins = true };
}

abbrev pub keystroke_by : {S : Type 0} → Semantics S → RunState S → ℕ → Mode → Keystroke S
keystroke_by m at key (mode.Line node prompt takes_moment) = line_keystroke m at key
keystroke_by m at key mode.Raw = raw_keystroke m at key
keystroke_by m at key mode.Ended = raw_keystroke m at key

abbrev pub keystroke : {S : Type 0} → Semantics S → RunState S → ℕ → Keystroke S
keystroke m at key = keystroke_by m at key (m.mode_of at.state)

-- after its echo and its log line: the moment, what happens, and the prompt of the next line
unfoldable pub outcome_trace : {S : Type 0} → Semantics S → S → Outcome S → List (Event S)
outcome_trace m state outcome =
    events_if outcome.takes_moment (Moment ∷ [])
    ++ (outcome.events ++ events_if outcome.begins (opening (m.mode_of (state_after state outcome.events))))

-- the trace of what a key does; with a log its line comes after the whole echo, and nothing acts before both
unfoldable pub keystroke_trace : {S : Type 0} → Semantics S → Bool → S → Keystroke S → List (Event S)
keystroke_trace m logging state s =
    Trials s.cost ∷ Screen s.echo ∷ (events_if logging (Log s.log ∷ []) ++ outcome_trace m state s.outcome)

-- the trace of a key that is taken
abbrev pub key_trace : {S : Type 0} → Semantics S → Bool → RunState S → ℕ → List (Event S)
key_trace m logging at key = keystroke_trace m logging at.state (keystroke m at key)

-- where the next line begins, if one does
abbrev pub next_session : Bool → Mode → SessionState → SessionState
next_session true mode session = line_start mode session
next_session false mode session = session

-- where an outcome leads, from a session, a state and the moments to come
unfoldable pub step_of : {S : Type 0} → Semantics S → SessionState → S → List ℕ → Outcome S → RunState S
step_of m session state moments outcome =
    let left = state_after state outcome.events in
    run_state (next_session outcome.begins (m.mode_of left) session) left (moments_later outcome.takes_moment moments)

-- where a key leads
abbrev pub step_by : {S : Type 0} → Semantics S → RunState S → Keystroke S → RunState S
step_by m at s = step_of m s.session at.state at.moments s.outcome

abbrev pub step : {S : Type 0} → Semantics S → RunState S → ℕ → RunState S
step m at key = step_by m at (keystroke m at key)

-- the application has ended the run
abbrev pub is_ended : Mode → Bool
is_ended (mode.Line node prompt takes_moment) = false
is_ended mode.Raw = false
is_ended mode.Ended = true

-- nothing more after the end
abbrev pub unless : {S : Type 0} → Bool → List (Event S) → List (Event S)
unless true events = []
unless false events = events

-- the trace of the keys that are left
abbrev pub keys_trace : {S : Type 0} → Semantics S → Bool → RunState S → List ℕ → List (Event S)
keys_trace m logging at [] = Ask ∷ End ∷ []
keys_trace m logging at (key ∷ keys) =
    Ask ∷ Key key ∷ (key_trace m logging at key
    ++ unless (is_ended (m.mode_of (step m at key).state)) (keys_trace m logging (step m at key) keys))

-- where a run begins: at a line, if the application is to have one
abbrev pub starting : {S : Type 0} → Semantics S → S → List ℕ → RunState S
starting m state moments = run_state (line_start (m.mode_of state) (at_start 0 Main None)) state moments

-- [run-trace] the trace of a run
unfoldable pub run_trace : {S : Type 0} → Semantics S → Bool → S → List ℕ → List ℕ → List (Event S)
run_trace m logging state moments keys =
    opening (m.mode_of state)
    ++ unless (is_ended (m.mode_of state)) (keys_trace m logging (starting m state moments) keys)
