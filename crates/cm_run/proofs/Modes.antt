-- What a key does, by the mode that it meets.
-- What a mode decides is a lemma for each mode (line_key, raw_key).
use Rattle.std.proofs.Common.{◌≡◌, ℕ, ap, sym, subst, ◌∙◌}
use Rattle.std.specs.Prelude.{Bool, Result}
use Rattle.cm_state.specs.declared.prompt.Prompt.{Prompt}
use Rattle.cm_run.specs.declared.mode.Mode.TheVariants as mode
use Rattle.cm_run.specs.declared.stop.Stop.{Stop}
use Rattle.cm_run.specs.Observation.{Observation}
use Rattle.cm_run.specs.Cut.{Traces}
use Rattle.cm_run.specs.Semantics.{Semantics}
use Rattle.cm_run.specs.Trace.{RunState, key_trace, keystroke_by, keystroke_trace, line_keystroke, raw_keystroke, step, step_by}

module _ {S : Type 0} (m : Semantics S) (logging : Bool) (at : RunState S) (key : ℕ) where
  pub line_key : (node : ℕ) (prompt : Prompt) (takes : Bool) (a b : Observation S) (result : Result Unit Stop)
      → m.mode_of at.state ≡ mode.Line node prompt takes
      → Traces a b (keystroke_trace m logging at.state (line_keystroke m at key)) result → Traces a b (key_trace m logging at key) result
  line_key node prompt takes a b result is traces =
      subst (λ it. Traces a b (keystroke_trace m logging at.state (keystroke_by m at key it)) result) (sym is) traces

  pub line_step : (node : ℕ) (prompt : Prompt) (takes : Bool) (to : RunState S)
      → m.mode_of at.state ≡ mode.Line node prompt takes → to ≡ step_by m at (line_keystroke m at key) → to ≡ step m at key
  line_step node prompt takes to is leads = leads ∙ ap (λ it. step_by m at (keystroke_by m at key it)) (sym is)

  pub raw_key : (a b : Observation S) (result : Result Unit Stop) → m.mode_of at.state ≡ mode.Raw
      → Traces a b (keystroke_trace m logging at.state (raw_keystroke m at key)) result → Traces a b (key_trace m logging at key) result
  raw_key a b result is traces =
      subst (λ it. Traces a b (keystroke_trace m logging at.state (keystroke_by m at key it)) result) (sym is) traces

  pub raw_step : (to : RunState S) → m.mode_of at.state ≡ mode.Raw → to ≡ step_by m at (raw_keystroke m at key) → to ≡ step m at key
  raw_step to is leads = leads ∙ ap (λ it. step_by m at (keystroke_by m at key it)) (sym is)

  pub ended_key : (a b : Observation S) (result : Result Unit Stop) → m.mode_of at.state ≡ mode.Ended
      → Traces a b (keystroke_trace m logging at.state (raw_keystroke m at key)) result → Traces a b (key_trace m logging at key) result
  ended_key a b result is traces =
      subst (λ it. Traces a b (keystroke_trace m logging at.state (keystroke_by m at key it)) result) (sym is) traces

  pub ended_step : (to : RunState S) → m.mode_of at.state ≡ mode.Ended → to ≡ step_by m at (raw_keystroke m at key) → to ≡ step m at key
  ended_step to is leads = leads ∙ ap (λ it. step_by m at (keystroke_by m at key it)) (sym is)
