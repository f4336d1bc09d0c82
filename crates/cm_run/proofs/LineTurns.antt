-- What a key of a line leaves of the application.
-- What a key leaves is one lemma for each turn, over the exact state.
use Rattle.std.proofs.Common.{◌≡◌, ℕ, true, false, refl, ap, ◌∙◌}
use Rattle.std.proofs.lemmas.List.Sums.{fold-append}
use Rattle.cm_line.specs.declared.key.KeyClass.{KeyClass}
use Rattle.cm_line.specs.declared.key.KeyClass.TheVariants.{End, Stop}
use Rattle.cm_line.specs.Keys.{class_at}
use Rattle.cm_blocks.specs.declared.field.Ending.{Ending}
use Rattle.cm_blocks.specs.declared.field.Fault.{Fault}
use Rattle.cm_state.specs.Edit.{edited}
use Rattle.cm_state.specs.SessionState.{SessionState, line_before}
use Rattle.cm_state.specs.Turn.{turn_of}
use Rattle.cm_state.specs.declared.turn.Turn.{Turn}
use Rattle.cm_state.specs.declared.turn.Turn.TheVariants as turn
use Rattle.cm_run.specs.declared.engine.TheConstants.{FILE_LINES}
use Rattle.cm_run.specs.declared.mode.Mode.{Mode}
use Rattle.cm_run.specs.declared.mode.Mode.TheVariants as mode
use Rattle.cm_run.specs.Event.{state_after, state_after_event}
use Rattle.cm_run.specs.Idle.{IsIdle, turn_at}
use Rattle.cm_run.specs.Keeping.{is_line}
use Rattle.cm_run.specs.Semantics.{Semantics, setting_of}
use Rattle.cm_run.specs.Obey.{left_by}
use Rattle.cm_run.specs.Trace.{Keystroke, RunState, effects_trace, file_trace, keystroke_by, line_keystroke, line_trace, moment_at, raw_keystroke, step, step_by, step_of, turn_outcome}
use Rattle.cm_run.proofs.Screens.{state-effects}

-- only an End key confirms a line
confirms : (class : KeyClass) (ending : Ending) → turn_of class ending ≡ turn.Confirmed → class ≡ End
confirms End ending is = refl
confirms Stop ending is = absurd (cc)
confirms class ending is = absurd (cc)

pub confirmed_by_end : {S : Type 0} (m : Semantics S) (at : RunState S) (key : ℕ) → turn_at m at key ≡ turn.Confirmed
    → class_at (line_before at.session) key ≡ End
confirmed_by_end m at key is =
    confirms (class_at (line_before at.session) key) (edited (setting_of m at.state) at.session key).ending is

module _ {S : Type 0} (m : Semantics S) where
  -- the session and the moment of the line
  abbrev pub session_at : RunState S → ℕ → SessionState
  session_at at key = edited (setting_of m at.state) at.session key

  abbrev pub moment_of : RunState S → ℕ
  moment_of at = moment_at m at.state at.moments

  of_line : (at : RunState S) (key : ℕ) (it : Mode) → is_line it ≡ true → keystroke_by m at key it ≡ line_keystroke m at key
  of_line at key (mode.Line node prompt takes) line = refl
  of_line at key mode.Raw line = absurd (cc)
  of_line at key mode.Ended line = absurd (cc)

  of_raw : (at : RunState S) (key : ℕ) (it : Mode) → is_line it ≡ false → keystroke_by m at key it ≡ raw_keystroke m at key
  of_raw at key (mode.Line node prompt takes) other = absurd (cc)
  of_raw at key mode.Raw other = refl
  of_raw at key mode.Ended other = refl

  -- a raw key leads where its acts do
  pub raw_leads : (at : RunState S) (key : ℕ) → is_line (m.mode_of at.state) ≡ false
      → (step m at key).state ≡ left_by at.state (m.raw_effects at.state key)
  unfolding step_of raw_keystroke
  raw_leads at key other =
      ap (λ (s : Keystroke S). (step_by m at s).state) (of_raw at key (m.mode_of at.state) other)
      ∙ state-effects (m.raw_effects at.state key) at.state

  -- a key of a line leads where its turn does
  leads : (at : RunState S) (key : ℕ) (to : Turn) → is_line (m.mode_of at.state) ≡ true → turn_at m at key ≡ to
      → (step m at key).state ≡ state_after at.state (turn_outcome m at.state (session_at at key) (moment_of at) to).events
  unfolding step_of line_keystroke
  leads at key to line is =
      ap (λ (s : Keystroke S). (step_by m at s).state) (of_line at key (m.mode_of at.state) line)
      ∙ ap (λ (it : Turn). state_after at.state (turn_outcome m at.state (session_at at key) (moment_of at) it).events) is

  pub refusal_leads : (at : RunState S) (key : ℕ) (fault : Fault) → is_line (m.mode_of at.state) ≡ true → turn_at m at key ≡ turn.Refused fault
      → (step m at key).state ≡ m.refusal at.state
  unfolding turn_outcome
  refusal_leads at key fault line is = leads at key (turn.Refused fault) line is

  pub abandonment_leads : (at : RunState S) (key : ℕ) → is_line (m.mode_of at.state) ≡ true → turn_at m at key ≡ turn.Abandoned
      → (step m at key).state ≡ m.abandonment at.state
  unfolding turn_outcome
  abandonment_leads at key line is = leads at key turn.Abandoned line is

  pub edit_leads : (at : RunState S) (key : ℕ) → is_line (m.mode_of at.state) ≡ true → turn_at m at key ≡ turn.Edited
      → (step m at key).state ≡ at.state
  unfolding turn_outcome
  edit_leads at key line is = leads at key turn.Edited line is

  pub fault_leads : (at : RunState S) (key : ℕ) → is_line (m.mode_of at.state) ≡ true → turn_at m at key ≡ turn.Failed
      → (step m at key).state ≡ at.state
  unfolding turn_outcome
  fault_leads at key line is = leads at key turn.Failed line is

  -- a line that is confirmed does its acts, and then the lines of the command files that it takes
  pub confirmed_leads : (at : RunState S) (key : ℕ) → is_line (m.mode_of at.state) ≡ true → turn_at m at key ≡ turn.Confirmed
      → (step m at key).state ≡ state_after (left_by at.state (m.line_effects at.state (session_at at key) (moment_of at)))
      (file_trace m FILE_LINES (moment_of at) (left_by at.state (m.line_effects at.state (session_at at key) (moment_of at))))
  unfolding turn_outcome line_trace
  confirmed_leads at key line is =
      let effects = m.line_effects at.state (session_at at key) (moment_of at) in
      leads at key turn.Confirmed line is
      ∙ fold-append state_after_event at.state (effects_trace effects) (file_trace m FILE_LINES (moment_of at) (state_after at.state (effects_trace effects)))
      ∙ ap (λ (it : S). state_after it (file_trace m FILE_LINES (moment_of at) it)) (state-effects effects at.state)

  -- of an idle application nothing else is changed
  pub idle_stays : {V : Type 0} (seen : S → V) → IsIdle m seen → (at : RunState S) (key : ℕ) → is_line (m.mode_of at.state) ≡ true
      → (turn_at m at key ≡ turn.Confirmed → ⊥) → seen (step m at key).state ≡ seen at.state
  idle_stays {V} seen idle at key line other = by (turn_at m at key) refl where
    by : (to : Turn) → turn_at m at key ≡ to → seen (step m at key).state ≡ seen at.state
    by turn.Confirmed is = absurd (other is)
    by (turn.Refused fault) is = ap seen (refusal_leads at key fault line is) ∙ idle.refusal at.state
    by turn.Abandoned is = ap seen (abandonment_leads at key line is) ∙ idle.abandonment at.state
    by turn.Edited is = ap seen (edit_leads at key line is)
    by turn.Failed is = ap seen (fault_leads at key line is)
