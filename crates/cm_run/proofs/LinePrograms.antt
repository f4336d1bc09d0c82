-- Programs that act by lines alone: what keys leave of them, what stays on the screen, and how a run ends.
-- One impl<P: LineProgram> Application for P serves all programs of lines alone. Where two traits share a name the call
-- says which (LineProgram::names(self)). What acts is two functions, one that writes the reply and one that changes. A
-- match with constants in its patterns closes with nothing; so does a guard before a _ that puts nothing, where the
-- definition has a catch-all.
use Rattle.std.proofs.Common.{◌≡◌, ◌≢◌, ℕ, Bool, true, false, List, Result, Ok, Err, inl, refl, subst, sym, ap, ◌∙◌, arith}
use Rattle.std.specs.Prelude.{Option, None, Some}
use Rattle.cm_io.specs.Fault.{Rose}
use Rattle.cm_state.specs.SessionState.{SessionState}
use Rattle.cm_state.specs.declared.prompt.Prompt.{Prompt}
use Rattle.cm_state.specs.declared.turn.Turn.{Turn}
use Rattle.cm_state.specs.declared.turn.Turn.TheVariants as turn
use Rattle.cm_run.specs.Cause.{Counts, RunCause, counts}
use Rattle.cm_run.specs.Event.{Event, state_after}
use Rattle.cm_run.specs.Idle.{EndsOnlyWhere, turn_at}
use Rattle.cm_run.specs.Keeping.{HasPrintedPrompt, IsLineKeepingWhile, is_line}
use Rattle.cm_run.specs.LineSemantics.{HasPrinted, LineSemantics, line_effect, line_mode, lines_only}
use Rattle.cm_run.specs.LineRun.{LineCause}
use Rattle.cm_run.specs.Semantics.{IsSparing}
use Rattle.cm_run.specs.Trace.{RunState, is_ended, step}
use Rattle.cm_run.specs.declared.engine.TheConstants.{FILE_LINES}
use Rattle.cm_run.specs.declared.mode.Mode.TheVariants as mode
use Rattle.cm_run.specs.declared.stop.Stop.{Stop}
use Rattle.cm_run.specs.declared.stop.Stop.TheVariants as stop
use Rattle.cm_run.proofs.Fileless.{no_files}
use Rattle.cm_run.proofs.LineEnds.{ends_effect, lines_end}
use Rattle.cm_run.proofs.LineTurns.{confirmed_leads, idle_stays, moment_of, session_at}

-- a log that counts no fault does not fail
never_rises : Rose 0 0 → ⊥
unfolding Rose
never_rises rose = omega (arith, rose)

same_keys : {a b : Counts} → a ≡ b → a.keys ≡ b.keys
same_keys same = ap (λ (it : Counts). it.keys) same

same_screen : {a b : Counts} → a ≡ b → a.screen ≡ b.screen
same_screen same = ap (λ (it : Counts). it.screen) same

module _ {S : Type 0} (p : LineSemantics S) where
  -- a line that is confirmed leaves its state
  pub confirmed_leaves : (at : RunState S) (key : ℕ) → is_line ((lines_only p).mode_of at.state) ≡ true
      → turn_at (lines_only p) at key ≡ turn.Confirmed
      → (step (lines_only p) at key).state ≡ p.state_of at.state (session_at (lines_only p) at key)
  confirmed_leaves at key line is =
      let left : S = p.state_of at.state (session_at (lines_only p) at key) in
      confirmed_leads (lines_only p) at key line is
      ∙ ap (λ (events : List (Event S)). state_after left events)
      (no_files (lines_only p) (λ state. refl) FILE_LINES (moment_of (lines_only p) at) left)

  -- and nothing else changes the state
  pub unconfirmed_stays : (at : RunState S) (key : ℕ) → is_line ((lines_only p).mode_of at.state) ≡ true
      → (turn_at (lines_only p) at key ≡ turn.Confirmed → ⊥) → (step (lines_only p) at key).state ≡ at.state
  unconfirmed_stays at key line other =
      idle_stays (lines_only p) (λ (state : S). state) (record { refusal = λ state. refl; abandonment = λ state. refl }) at key line other

  -- so where it changes, it is by such a line
  pub change_confirms : (at : RunState S) (key : ℕ) → is_line ((lines_only p).mode_of at.state) ≡ true
      → ((step (lines_only p) at key).state ≡ at.state → ⊥) → turn_at (lines_only p) at key ≡ turn.Confirmed
  change_confirms at key line change = by (turn_at (lines_only p) at key) refl where
    stays : (turn_at (lines_only p) at key ≡ turn.Confirmed → ⊥) → ⊥
    stays other = change (unconfirmed_stays at key line other)

    by : (to : Turn) → turn_at (lines_only p) at key ≡ to → turn_at (lines_only p) at key ≡ turn.Confirmed
    by turn.Confirmed is = is
    by (turn.Refused fault) is = absurd (stays (λ done. let wrong : turn.Refused fault ≡ turn.Confirmed = sym is ∙ done in absurd (cc)))
    by turn.Abandoned is = absurd (stays (λ done. let wrong : turn.Abandoned ≡ turn.Confirmed = sym is ∙ done in absurd (cc)))
    by turn.Edited is = absurd (stays (λ done. let wrong : turn.Edited ≡ turn.Confirmed = sym is ∙ done in absurd (cc)))
    by turn.Failed is = absurd (stays (λ done. let wrong : turn.Failed ≡ turn.Confirmed = sym is ∙ done in absurd (cc)))

  -- and such a line alone ends it
  pub end_confirms : (at : RunState S) (key : ℕ) → is_line ((lines_only p).mode_of at.state) ≡ true
      → is_line ((lines_only p).mode_of (step (lines_only p) at key).state) ≡ false
      → turn_at (lines_only p) at key ≡ turn.Confirmed
  end_confirms at key line over = change_confirms at key line (λ same.
      let wrong : true ≡ false = sym line ∙ ap (λ (it : S). is_line ((lines_only p).mode_of it)) (sym same) ∙ over in
      absurd (cc))

  -- one that passes a test which each line passes that leaves it ended
  pub ends_only : (test : SessionState → Bool)
      → ((state : S) (session : SessionState) → is_line (line_mode (p.line_of (p.state_of state session))) ≡ false
      → test session ≡ true) → EndsOnlyWhere p test
  ends_only test ends = λ at key line over.
      let is = end_confirms at key line over in (
        is,
        ends at.state (session_at (lines_only p) at key)
            (ap (λ (it : S). is_line (line_mode (p.line_of it))) (sym (confirmed_leaves at key line is)) ∙ over),
      )

  -- its lines stay on the screen, while its prompts are printed
  printed : (line : Option (ℕ × Prompt)) → HasPrinted line → HasPrintedPrompt (line_mode line)
  printed (Some line) is = is
  printed None is = tt

  never_raw : (line : Option (ℕ × Prompt)) → line_mode line ≡ mode.Raw → ⊥
  never_raw (Some line) is = cc
  never_raw None is = cc

  goes_on : (line : Option (ℕ × Prompt)) → is_ended (line_mode line) ≡ false → is_line (line_mode line) ≡ true
  goes_on (Some line) going = refl
  goes_on None going = absurd (cc)

  module _ (Kept : S → Type 0) (prompts : (state : S) → Kept state → HasPrinted (p.line_of state))
      (kept : (state : S) (session : SessionState) → Kept state → Kept (p.state_of state session)) where
    -- a key leaves what a confirmed line leaves, or nothing else
    key_leaves : (at : RunState S) (key : ℕ) → is_ended ((lines_only p).mode_of at.state) ≡ false → Kept at.state
        → Kept (step (lines_only p) at key).state
    key_leaves at key going is_kept = by (turn_at (lines_only p) at key) refl
      where
        line : is_line ((lines_only p).mode_of at.state) ≡ true
        line = goes_on (p.line_of at.state) going

        stays : (turn_at (lines_only p) at key ≡ turn.Confirmed → ⊥) → Kept (step (lines_only p) at key).state
        stays other = subst Kept (sym (unconfirmed_stays at key line other)) is_kept

        by : (to : Turn) → turn_at (lines_only p) at key ≡ to → Kept (step (lines_only p) at key).state
        by turn.Confirmed is =
            subst Kept (sym (confirmed_leaves at key line is)) (kept at.state (session_at (lines_only p) at key) is_kept)
        by (turn.Refused fault) is = stays (λ done. let wrong : turn.Refused fault ≡ turn.Confirmed = sym is ∙ done in absurd (cc))
        by turn.Abandoned is = stays (λ done. let wrong : turn.Abandoned ≡ turn.Confirmed = sym is ∙ done in absurd (cc))
        by turn.Edited is = stays (λ done. let wrong : turn.Edited ≡ turn.Confirmed = sym is ∙ done in absurd (cc))
        by turn.Failed is = stays (λ done. let wrong : turn.Failed ≡ turn.Confirmed = sym is ∙ done in absurd (cc))

    pub keeps_lines : IsLineKeepingWhile Kept (lines_only p)
    keeps_lines = record {
      kept = key_leaves;
      prompts = λ state is_kept. printed (p.line_of state) (prompts state is_kept);
      lines = λ state session moment. ends_effect (line_effect p state session) (lines_end (p.reply_of state session));
      file_lines = λ state session moment. inl refl;
      raw_keys = λ state key is line. absurd (never_raw (p.line_of state) is);
    }

  -- memory may run out for none of its acts
  pub line_spares : IsSparing (lines_only p)
  line_spares = record {
    line_effects = λ state session moment. refl;
    raw_effects = λ state key. refl;
    file_line_effects = λ state session moment. refl;
  }

  -- why its run ends, by the counts, of which that of the log cannot rise
  pub line_cause : (keys keys' screen screen' : ℕ) (outcome : Result Unit Stop)
      → RunCause (counts screen 0 keys) (counts screen' 0 keys') outcome → (IsSparing (lines_only p) → outcome ≢ Err stop.Memory)
      → LineCause keys keys' screen screen' outcome
  unfolding RunCause LineCause
  line_cause keys keys' screen screen' (Ok value) same spares = (same_keys same, same_screen same)
  line_cause keys keys' screen screen' (Err stop.Limit) same spares = (same_keys same, same_screen same)
  line_cause keys keys' screen screen' (Err stop.Keys) cause spares = (cause.0, same_screen cause.1)
  line_cause keys keys' screen screen' (Err stop.Screen) cause spares = (same_keys cause.1, cause.0)
  line_cause keys keys' screen screen' (Err stop.Log) cause spares = never_rises cause.0
  line_cause keys keys' screen screen' (Err stop.Memory) same spares = spares line_spares refl
