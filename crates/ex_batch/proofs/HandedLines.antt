-- A line of the EXEC's that is handed in where nothing is left to be done: its acts, and the lines of command files.
-- A line that is handed in has the trace of a line of a command file, then that of the files (handed_on, handed_cut).
use Rattle.std.proofs.Common.{◌≡◌, ℕ, zero, suc, Bool, true, false, List, [], ◌∷◌, ◌++◌, Option, None, Some, refl, sym, ap, ◌∙◌}
use Rattle.std.proofs.lemmas.List.Sums.{fold-append}
use Rattle.cm_text.specs.Text.{finished}
use Rattle.cm_blocks.specs.KeptParse.{cost}
use Rattle.cm_state.specs.SessionState.{SessionState}
use Rattle.cm_run.specs.Event.{Event, Trials, state_after, state_after_event}
use Rattle.cm_run.specs.SingleLine.{handed_trace}
use Rattle.cm_run.specs.Semantics.{Effect, setting_of}
use Rattle.cm_run.specs.Obey.{left_by}
use Rattle.cm_run.specs.Trace.{effects_trace, file_line_trace, file_session, file_trace, line_by, next_line, node_of}
use Rattle.cm_run.specs.declared.engine.TheConstants.{FILE_LINES}
use Rattle.cm_run.proofs.Screens.{state-effects}
use Rattle.ex_take.specs.Exec.{exec_semantics}
use Rattle.ex_take.specs.ExecState.{ExecState}
use Rattle.ex_take.specs.Interpreter.{mode_by}
use Rattle.ex_take.specs.Taking.{is_at_rest}
use Rattle.ex_take.specs.declared.pending.Pending.{Pending}
use Rattle.ex_take.specs.declared.typing.Typing.{Typing}
use Rattle.ex_take.proofs.QuietKeys.{after, quiet_next}
use Rattle.ex_take.proofs.Rests.{rest_files, rest_goes_on, rest_typing}
use Rattle.ex_batch.specs.Job.{job_line_effects, job_semantics, order_effects}

-- where a line of a command file waits, something is left to be done
none_next : (at : ExecState) → is_at_rest at ≡ true → next_line exec_semantics at ≡ None
none_next at rests = quiet_next at (rest_files at rests)

-- so a line of a command file does what it does without a control file
same_line : (at : ExecState) (moment : ℕ)
    → file_line_trace job_semantics moment at (next_line job_semantics at) ≡ file_line_trace exec_semantics moment at (next_line exec_semantics at)
unfolding job_line_effects
same_line at moment = by (is_at_rest at) refl (next_line exec_semantics at) refl
  where
    by : (rests : Bool) → is_at_rest at ≡ rests → (found : Option (List ℕ)) → next_line exec_semantics at ≡ found
        → file_line_trace job_semantics moment at found ≡ file_line_trace exec_semantics moment at found
    by rests is None none = refl
    by true is (Some line) some = let wrong : None ≡ Some line = sym (none_next at is) ∙ some in absurd (cc)
    by false is (Some line) some = rw is refl

same_lines : (lines moment : ℕ) (at : ExecState) → file_trace job_semantics lines moment at ≡ file_trace exec_semantics lines moment at
unfolding file_trace
same_lines zero moment at = refl
same_lines (suc lines) moment at =
    let now = file_line_trace job_semantics moment at (next_line job_semantics at) in
    let then_same = same_lines lines moment (state_after at now) in
    ap (λ (events : List (Event ExecState)). now ++ events) then_same
    ∙ ap (λ (events : List (Event ExecState)). events ++ file_trace exec_semantics lines moment (state_after at events)) (same_line at moment)

-- at rest the next key is for a line
line_at_rest : (ended : Bool) (typing : Option Typing) (pending : Option Pending) (line : List ℕ) → ended ≡ false → typing ≡ None
    → line_by (mode_by ended typing pending) (Some line) ≡ Some line
line_at_rest ended typing None line going none = rw (going, none) refl
line_at_rest ended typing (Some pending) line going none = rw (going, none) refl

module _ (at : ExecState) (text : List ℕ) (moment : ℕ) (rests : is_at_rest at ≡ true) where
  abbrev pub session : SessionState
  session = file_session job_semantics at text

  taken : line_by (job_semantics.mode_of at) (Some text) ≡ Some text
  taken = line_at_rest at.interpreter.ended at.interpreter.typing at.interpreter.pending text
      (rest_goes_on at rests) (rest_typing at rests)

  -- its acts are those of a line of the control file
  ordered : job_line_effects at session moment ≡ order_effects at session moment session.ending
  unfolding job_line_effects
  ordered = rw rests refl

  -- its trials are counted, it acts, and then the command files that it takes
  abbrev pub acted : List (Effect ExecState) → List (Event ExecState)
  acted effects =
      Trials (cost (setting_of exec_semantics at) (node_of (exec_semantics.mode_of at)) [] (finished text))
      ∷ (effects_trace effects ++ file_trace exec_semantics FILE_LINES moment (state_after at (effects_trace effects)))

  pub handed_as : (effects : List (Effect ExecState)) → order_effects at session moment session.ending ≡ effects
      → handed_trace job_semantics moment at text ≡ acted effects
  unfolding handed_trace
  handed_as effects is =
      let trials : Event ExecState = Trials (cost (setting_of exec_semantics at) (node_of (exec_semantics.mode_of at)) [] (finished text)) in
      let whole : List (Event ExecState) → List (Event ExecState)
      = λ events. events ++ file_trace job_semantics FILE_LINES moment (state_after at events) in
      ap (λ (it : Option (List ℕ)). whole (file_line_trace job_semantics moment at it)) taken
      ∙ ap (λ (it : List (Effect ExecState)). whole (trials ∷ effects_trace it)) (ordered ∙ is)
      ∙ ap (λ (events : List (Event ExecState)). trials ∷ (effects_trace effects ++ events)) (same_lines FILE_LINES moment (state_after at (effects_trace effects)))

  -- where that leads
  acted_leads : (effects : List (Effect ExecState)) → state_after at (acted effects) ≡ after moment FILE_LINES (left_by at effects)
  acted_leads effects =
      let first = effects_trace effects in
      fold-append state_after_event at first (file_trace exec_semantics FILE_LINES moment (state_after at first))
      ∙ ap (λ (it : ExecState). state_after it (file_trace exec_semantics FILE_LINES moment it)) (state-effects effects at)

  pub handed_leads : (effects : List (Effect ExecState)) → order_effects at session moment session.ending ≡ effects
      → state_after at (handed_trace job_semantics moment at text) ≡ after moment FILE_LINES (left_by at effects)
  handed_leads effects is = ap (λ (events : List (Event ExecState)). state_after at events) (handed_as effects is) ∙ acted_leads effects
