-- Where a run begins: the first prompt.
use Rattle.std.proofs.Common.{◌≡◌, ℕ, List}
use Rattle.std.specs.Prelude.{Bool, Ok, Err, None}
use Rattle.cm_state.specs.SessionState.{SessionState, at_start}
use Rattle.cm_state.specs.declared.prompt.Prompt.TheVariants.{Main}
use Rattle.std.proofs.Common.{subst, sym, ap, ◌∙◌}
use Rattle.cm_run.specs.declared.stop.Stop.{Stop}
use Rattle.cm_run.specs.Observation.{Observation}
use Rattle.cm_run.specs.Cut.{Traces}
use Rattle.cm_run.specs.Semantics.{Semantics}
use Rattle.cm_run.specs.Trace.{is_ended, keys_trace, line_start, opening, run_state, run_trace, starting, unless}
use Rattle.cm_run.proofs.Joins.{traces_cut}
use Rattle.cm_run.proofs.Course.{Ahead, ahead_first, ahead_more}

module _ {S : Type 0} (m : Semantics S) (logging : Bool) (state : S) (moments keys : List ℕ) where
  -- it is shown, and the keys are left
  pub run_begins : (a b : Observation S) (value : Unit) (session first : SessionState) → Traces a b (opening (m.mode_of state)) (Ok value)
      → first ≡ at_start 0 Main None → session ≡ line_start (m.mode_of state) first
      → Ahead a b (unless (is_ended (m.mode_of state)) (keys_trace m logging (run_state session state moments) keys)) (run_trace m logging state moments keys)
  unfolding run_trace Traces
  run_begins a b value session first shows starts opens =
      let is : session ≡ line_start (m.mode_of state) (at_start 0 Main None) = opens ∙ ap (λ it. line_start (m.mode_of state) it) starts in
      subst (λ it. Ahead a b (unless (is_ended (m.mode_of state)) (keys_trace m logging (run_state it state moments) keys)) (run_trace m logging state moments keys)) (sym is)
      (ahead_more a a b (opening (m.mode_of state)) (unless (is_ended (m.mode_of state)) (keys_trace m logging (starting m state moments) keys)) (run_trace m logging state moments keys)
      (ahead_first a (run_trace m logging state moments keys)) shows)

  -- or it is cut
  pub run_unbegun : (a b : Observation S) (why : Stop) → Traces a b (opening (m.mode_of state)) (Err why) → Traces a b (run_trace m logging state moments keys) (Err why)
  unfolding run_trace
  run_unbegun a b why shows =
      traces_cut a b (opening (m.mode_of state)) (unless (is_ended (m.mode_of state)) (keys_trace m logging (starting m state moments) keys)) why shows
