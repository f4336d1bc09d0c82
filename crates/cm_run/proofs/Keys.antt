-- What a key of a line, and a raw key, does.
use Rattle.std.proofs.Common.{◌≡◌, ℕ, ◌+◌, List, refl, ap, sym, subst, ◌∙◌, arith}
use Rattle.std.specs.Prelude.{Bool, true, false, Result, Ok, Err}
use Rattle.cm_io.specs.declared.sink.Put.{Put}
use Rattle.cm_io.specs.declared.sink.Put.TheVariants.{Done, Failed}
use Rattle.cm_io.specs.Contents.{Contents, Adds, AddsPart, add}
use Rattle.cm_line.specs.Keys.{class_at}
use Rattle.cm_blocks.specs.KeptParse.{cost}
use Rattle.cm_blocks.specs.Setting.{Setting}
use Rattle.cm_state.specs.Echo.{echo}
use Rattle.cm_state.specs.Edit.{edited, edited_as}
use Rattle.cm_state.specs.Log.{log_line}
use Rattle.cm_state.specs.SessionState.{SessionState, line_before, text_of}
use Rattle.cm_state.specs.Turn.{put_of, turn_of}
use Rattle.cm_state.specs.declared.turn.Turn.{Turn}
use Rattle.cm_state.specs.declared.turn.Turn.TheVariants as turn
use Rattle.cm_run.specs.declared.stop.Stop.{Stop}
use Rattle.cm_run.specs.declared.stop.Stop.TheVariants as stop
use Rattle.cm_run.specs.Event.{state_after}
use Rattle.cm_run.specs.Observation.{Observation, Performs, observation}
use Rattle.cm_run.specs.Cut.{Traces}
use Rattle.cm_run.specs.Semantics.{Semantics, setting_of}
use Rattle.cm_run.specs.Obey.{Obeys, stage}
use Rattle.cm_run.specs.Trace.{RunState, effects_trace, line_keystroke, moment_at, line_start, opening, outcome_trace, raw_log, raw_keystroke, run_state, step_by, step_of, keystroke_trace, turn_outcome}
use Rattle.cm_run.proofs.Effects.{effects_traces}
use Rattle.cm_run.proofs.Joins.{traces_cut, traces_on}
use Rattle.cm_run.proofs.Keystrokes.{keystroke_log_cut, keystroke_on, keystroke_screen_cut, logged_if}

-- a key leaves the node at which the line begins
pub edited_node : (s : Setting) (session : SessionState) (key : ℕ) → (edited s session key).node ≡ session.node
unfolding edited_as
edited_node s session key = refl

-- the log after a put that was done, with a log or without
logs_done : (logging : Bool) (before now : Contents) (line : List ℕ)
    → (logging ≡ true → Adds before now line Done) → (logging ≡ false → now ≡ before) → now ≡ logged_if logging before line
logs_done true before now line adds stays = adds refl
logs_done false before now line adds stays = stays refl

is_done : Put → Bool
is_done Done = true
is_done Failed = false

-- a put that failed was one on a log
logs_failed : (logging : Bool) (before now : Contents) (line : List ℕ)
    → (logging ≡ true → AddsPart before now line) → (logging ≡ false → Failed ≡ Done) → (logging ≡ true) × AddsPart before now line
unfolding is_done
logs_failed true before now line adds fails = (refl, adds refl)
logs_failed false before now line adds fails = let wrong : false ≡ true = ap is_done (fails refl) in absurd (cc)

-- the echo of a key that did not fail is put
pub turn_done : (it : Turn) → (it ≡ turn.Failed → ⊥) → put_of it ≡ Done
turn_done turn.Failed fails = absurd (fails refl)
turn_done turn.Edited fails = refl
turn_done turn.Confirmed fails = refl
turn_done turn.Abandoned fails = refl
turn_done (turn.Refused fault) fails = refl

pub echo_done : (it : Turn) (before now : Contents) (bytes : List ℕ) → (it ≡ turn.Failed → ⊥) → Adds before now bytes (put_of it) → now ≡ add before bytes
echo_done it before now bytes fails adds = subst (λ put. Adds before now bytes put) (turn_done it fails) adds

module _ {S : Type 0} (m : Semantics S) (logging : Bool) (key : ℕ) (session now : SessionState) (state : S) (moments : List ℕ)
    (screen screen' log log' : Contents) (keys : List ℕ) (gets trials trials' : ℕ) where
  -- the line is edited and logged, and then the key does what it asks for
  pub line_on : (it : Turn) (b : Observation S) (result : Result Unit Stop)
      → Traces (observation screen' log' keys gets moments trials' state) b (outcome_trace m state (turn_outcome m state now (moment_at m state moments) it)) result
      → now ≡ edited (setting_of m state) session key
      → it ≡ turn_of (class_at (line_before session) key) now.ending
      → screen' ≡ add screen (echo (setting_of m state) session key)
      → trials' ≡ trials + cost (setting_of m state) session.node (line_before session) (text_of now)
      → (logging ≡ true → Adds log log' (log_line key now) Done) → (logging ≡ false → log' ≡ log)
      → Traces (observation screen log keys gets moments trials state) b (keystroke_trace m logging state (line_keystroke m (run_state session state moments) key)) result
  unfolding line_keystroke
  line_on it b result traces edits is shown counted adds stays =
      let s = line_keystroke m (run_state session state moments) key in
      let to : outcome_trace m state (turn_outcome m state now (moment_at m state moments) it) ≡ outcome_trace m state s.outcome
      = ap (λ that. outcome_trace m state (turn_outcome m state now (moment_at m state moments) that)) is
      ∙ ap (λ (it : SessionState). outcome_trace m state (turn_outcome m state it (moment_at m state moments) (turn_of (class_at (line_before session) key) it.ending))) edits in
      keystroke_on m state s logging screen log screen' log' keys gets moments trials trials' b result
      (subst (λ events. Traces (observation screen' log' keys gets moments trials' state) b events result) to traces)
      shown
      (logs_done logging log log' (log_line key now) adds stays ∙ ap (λ it. logged_if logging log (log_line key it)) edits)
      (counted ∙ ap (λ (it : SessionState). trials + cost (setting_of m state) session.node (line_before session) (text_of it)) edits)

  -- where that leads
  pub line_next : (it : Turn) (to : RunState S)
      → to ≡ step_of m now state moments (turn_outcome m state now (moment_at m state moments) it)
      → now ≡ edited (setting_of m state) session key
      → it ≡ turn_of (class_at (line_before session) key) now.ending
      → to ≡ step_by m (run_state session state moments) (line_keystroke m (run_state session state moments) key)
  unfolding line_keystroke
  line_next it to leads edits is =
      leads ∙ ap (λ that. step_of m now state moments (turn_outcome m state now (moment_at m state moments) that)) is
      ∙ ap (λ (it : SessionState). step_of m it state moments (turn_outcome m state it (moment_at m state moments) (turn_of (class_at (line_before session) key) it.ending))) edits

  -- the echo is cut
  pub line_screen_cut : AddsPart screen screen' (echo (setting_of m state) session key)
      → now ≡ edited (setting_of m state) session key
      → trials' ≡ trials + cost (setting_of m state) session.node (line_before session) (text_of now)
      → Traces (observation screen log keys gets moments trials state) (observation screen' log keys gets moments trials' state) (keystroke_trace m logging state (line_keystroke m (run_state session state moments) key)) (Err stop.Screen)
  unfolding line_keystroke
  line_screen_cut adds edits counted =
      keystroke_screen_cut m state (line_keystroke m (run_state session state moments) key) logging screen screen' log keys gets moments trials trials' adds
      (counted ∙ ap (λ (it : SessionState). trials + cost (setting_of m state) session.node (line_before session) (text_of it)) edits)

  -- the line of the log is cut
  pub line_log_cut : (logging ≡ true → AddsPart log log' (log_line key now)) → (logging ≡ false → Failed ≡ Done)
      → now ≡ edited (setting_of m state) session key
      → screen' ≡ add screen (echo (setting_of m state) session key)
      → trials' ≡ trials + cost (setting_of m state) session.node (line_before session) (text_of now)
      → Traces (observation screen log keys gets moments trials state) (observation screen' log' keys gets moments trials' state) (keystroke_trace m logging state (line_keystroke m (run_state session state moments) key)) (Err stop.Log)
  unfolding line_keystroke
  line_log_cut adds fails edits shown counted =
      let s = line_keystroke m (run_state session state moments) key in
      let failed = logs_failed logging log log' (log_line key now) adds fails in
      subst (λ there. Traces (observation screen log keys gets moments trials state) (observation screen' log' keys gets moments trials' state) (keystroke_trace m there state s) (Err stop.Log)) (sym failed.0)
      (keystroke_log_cut m state s screen screen' log log' keys gets moments trials trials'
      (subst (λ it. AddsPart log log' (log_line key it)) edits failed.1) shown
      (counted ∙ ap (λ (it : SessionState). trials + cost (setting_of m state) session.node (line_before session) (text_of it)) edits))

  -- a raw key is shown and logged, and then it is done, and the next line begins where one does
  pub raw_on : (screen'' : Contents) (left : S) (value : Unit) (b : Observation S) (result : Result Unit Stop)
      → Traces (observation screen'' log' keys gets moments trials left) b (opening (m.mode_of left)) result
      → Obeys (stage screen' state) (stage screen'' left) (m.raw_effects state key) (Ok value)
      → screen' ≡ add screen (m.raw_echo state key)
      → (logging ≡ true → Adds log log' (raw_log key) Done) → (logging ≡ false → log' ≡ log)
      → Traces (observation screen log keys gets moments trials state) b (keystroke_trace m logging state (raw_keystroke m (run_state session state moments) key)) result
  unfolding raw_keystroke outcome_trace Traces Performs
  raw_on screen'' left value b result opens obeys shown adds stays =
      let s = raw_keystroke m (run_state session state moments) key in
      let acts : Traces (observation screen' log' keys gets moments trials state) (observation screen'' log' keys gets moments trials left) (effects_trace (m.raw_effects state key)) (Ok value)
      = effects_traces log' keys gets moments trials (m.raw_effects state key) screen' screen'' state left (Ok value) obeys in
      keystroke_on m state s logging screen log screen' log' keys gets moments trials trials b result
      (traces_on (observation screen' log' keys gets moments trials state) (observation screen'' log' keys gets moments trials left) b
      (effects_trace (m.raw_effects state key)) (opening (m.mode_of (state_after state (effects_trace (m.raw_effects state key))))) value result
      (subst (λ it. Traces (observation screen'' log' keys gets moments trials left) b (opening (m.mode_of it)) result) acts.state opens) acts)
      shown (logs_done logging log log' (raw_log key) adds stays) (omega arith)

  -- or it is cut
  pub raw_cut : (screen'' : Contents) (left : S) (why : Stop)
      → Obeys (stage screen' state) (stage screen'' left) (m.raw_effects state key) (Err why)
      → screen' ≡ add screen (m.raw_echo state key)
      → (logging ≡ true → Adds log log' (raw_log key) Done) → (logging ≡ false → log' ≡ log)
      → Traces (observation screen log keys gets moments trials state) (observation screen'' log' keys gets moments trials left) (keystroke_trace m logging state (raw_keystroke m (run_state session state moments) key)) (Err why)
  unfolding raw_keystroke outcome_trace
  raw_cut screen'' left why obeys shown adds stays =
      let s = raw_keystroke m (run_state session state moments) key in
      keystroke_on m state s logging screen log screen' log' keys gets moments trials trials (observation screen'' log' keys gets moments trials left) (Err why)
      (traces_cut (observation screen' log' keys gets moments trials state) (observation screen'' log' keys gets moments trials left)
      (effects_trace (m.raw_effects state key)) (opening (m.mode_of (state_after state (effects_trace (m.raw_effects state key))))) why
      (effects_traces log' keys gets moments trials (m.raw_effects state key) screen' screen'' state left (Err why) obeys))
      shown (logs_done logging log log' (raw_log key) adds stays) (omega arith)

  -- its echo is cut
  pub raw_screen_cut : AddsPart screen screen' (m.raw_echo state key)
      → Traces (observation screen log keys gets moments trials state) (observation screen' log keys gets moments trials state) (keystroke_trace m logging state (raw_keystroke m (run_state session state moments) key)) (Err stop.Screen)
  unfolding raw_keystroke
  raw_screen_cut adds =
      keystroke_screen_cut m state (raw_keystroke m (run_state session state moments) key) logging screen screen' log keys gets moments trials trials adds (omega arith)

  -- its line of the log is cut
  pub raw_log_cut : (logging ≡ true → AddsPart log log' (raw_log key)) → (logging ≡ false → Failed ≡ Done)
      → screen' ≡ add screen (m.raw_echo state key)
      → Traces (observation screen log keys gets moments trials state) (observation screen' log' keys gets moments trials state) (keystroke_trace m logging state (raw_keystroke m (run_state session state moments) key)) (Err stop.Log)
  unfolding raw_keystroke
  raw_log_cut adds fails shown =
      let s = raw_keystroke m (run_state session state moments) key in
      let failed = logs_failed logging log log' (raw_log key) adds fails in
      subst (λ there. Traces (observation screen log keys gets moments trials state) (observation screen' log' keys gets moments trials state) (keystroke_trace m there state s) (Err stop.Log)) (sym failed.0)
      (keystroke_log_cut m state s screen screen' log log' keys gets moments trials trials failed.1 shown (omega arith))

  -- where a raw key leads
  pub raw_next : (left : S) (screen'' : Contents) (value : Unit) (to : SessionState)
      → Obeys (stage screen' state) (stage screen'' left) (m.raw_effects state key) (Ok value)
      → to ≡ line_start (m.mode_of left) session
      → run_state to left moments ≡ step_by m (run_state session state moments) (raw_keystroke m (run_state session state moments) key)
  unfolding raw_keystroke step_of Traces Performs
  raw_next left screen'' value to obeys opens =
      let acts : Traces (observation screen' log keys gets moments trials state) (observation screen'' log keys gets moments trials left) (effects_trace (m.raw_effects state key)) (Ok value)
      = effects_traces log keys gets moments trials (m.raw_effects state key) screen' screen'' state left (Ok value) obeys in
      subst (λ s. run_state to left moments ≡ run_state (line_start (m.mode_of s) session) s moments) acts.state
      (ap (λ it. run_state it left moments) opens)
