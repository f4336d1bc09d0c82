-- The outcome of a key of a line, and programs that change, or end, at a confirmed line alone.
use Rattle.std.specs.Prelude.{◌≡◌, ℕ, Bool, false, true}
use Rattle.cm_line.specs.Keys.{class_at}
use Rattle.cm_state.specs.Edit.{edited}
use Rattle.cm_state.specs.SessionState.{SessionState, line_before}
use Rattle.cm_state.specs.Turn.{turn_of}
use Rattle.cm_state.specs.declared.turn.Turn.{Turn}
use Rattle.cm_state.specs.declared.turn.Turn.TheVariants as turn
use Rattle.cm_run.specs.Keeping.{is_line}
use Rattle.cm_run.specs.LineSemantics.{LineSemantics, lines_only}
use Rattle.cm_run.specs.Semantics.{Semantics, setting_of}
use Rattle.cm_run.specs.Trace.{RunState, step}

-- the outcome of a key of the line that is edited
abbrev pub turn_at : {S : Type 0} → Semantics S → RunState S → ℕ → Turn
turn_at m at key =
    turn_of (class_at (line_before at.session) key) (edited (setting_of m at.state) at.session key).ending

-- of what is seen of a state nothing is changed by a line that is refused, nor by one that is given up
pub record IsIdle {S V : Type 0} (m : Semantics S) (seen : S → V) : Type 0 where
  pub refusal : (state : S) → seen (m.refusal state) ≡ seen state
  pub abandonment : (state : S) → seen (m.abandonment state) ≡ seen state

-- a key ends a program of lines alone only where it confirms a line that passes a test
abbrev pub EndsOnlyWhere : {S : Type 0} → LineSemantics S → (SessionState → Bool) → Type 0
EndsOnlyWhere {S = S} p test = (at : RunState S) (key : ℕ) → is_line ((lines_only p).mode_of at.state) ≡ true
    → is_line ((lines_only p).mode_of (step (lines_only p) at key).state) ≡ false
    → (turn_at (lines_only p) at key ≡ turn.Confirmed)
    × (test (edited (setting_of (lines_only p) at.state) at.session key) ≡ true)
