-- A key ends the run where it confirms a line that commands LOGOUT, or one that takes a file with such a line.
use Rattle.std.proofs.Common.{◌≡◌, ℕ, zero, suc, ◌+◌, ◌<◌, Bool, true, false, List, Some, refl, sym, ap, ◌∙◌, subst, arith}
use Rattle.std.proofs.Math.Nat.{min-eq_left}
use Rattle.cm_io.specs.Fault.{next_count}
use Rattle.cm_line.specs.Keys.{class_at}
use Rattle.cm_line.specs.declared.key.KeyClass.{KeyClass}
use Rattle.cm_line.specs.declared.key.KeyClass.TheVariants.{End, Stop}
use Rattle.cm_blocks.specs.declared.field.Ending.{Ending}
use Rattle.cm_blocks.specs.declared.field.Ending.TheVariants as endings
use Rattle.cm_state.specs.SessionState.{line_before}
use Rattle.cm_state.specs.Turn.{turn_of}
use Rattle.cm_state.specs.declared.turn.Turn.{Turn}
use Rattle.cm_state.specs.declared.turn.Turn.TheVariants as turn
use Rattle.cm_run.specs.declared.engine.TheConstants.{FILE_LINES}
use Rattle.cm_run.specs.Idle.{turn_at}
use Rattle.cm_run.specs.Keeping.{is_line}
use Rattle.cm_run.specs.Obey.{left_by}
use Rattle.cm_run.specs.Trace.{RunState, file_session, file_trace, next_line, step}
use Rattle.cm_run.proofs.LineTurns.{confirmed_leads}
use Rattle.ex_take.specs.Exec.{exec_semantics, line_effects}
use Rattle.ex_take.specs.ExecState.{ExecState}
use Rattle.ex_take.specs.Logout.{ConfirmsLogout, HasLogout, IsLogout, after_lines, moment_of, session_at}
use Rattle.ex_take.specs.Quiet.{IsQuiet}
use Rattle.ex_take.proofs.Changes.{ends_at_a_line, goes_on_unconfirmed}
use Rattle.ex_take.proofs.LogoutLines.{ended_of, file_line_logout, line_logout, no_end}
use Rattle.ex_take.proofs.Quiet.{IsOpen, Stands, closed_stands, quiet_stands}
use Rattle.ex_take.proofs.QuietKeys.{after, either, line_typing, next_of, none_after, open_next, quiet_next, turn_none, turn_some}
use Rattle.ex_take.proofs.QuietLines.{file_line_stands, line_quiet}

module _ (moment : ℕ) where
  -- of one line more
  further : (lines : ℕ) (at : ExecState) → HasLogout lines moment at → HasLogout (suc lines) moment at
  further lines at it =
      record { before = it.before; within = omega (arith, it.within); line = it.line; next = it.next; is = it.is }

  here : (lines : ℕ) (at : ExecState) (line : List ℕ) → next_line exec_semantics at ≡ Some line
      → IsLogout at (file_session exec_semantics at line) → HasLogout (suc lines) moment at
  unfolding file_trace
  here lines at line some is = record { before = 0; within = omega arith; line = line; next = some; is = is }

  after_one : (lines : ℕ) (at : ExecState) (line : List ℕ) → next_line exec_semantics at ≡ Some line
      → HasLogout lines moment (next_of moment at line) → HasLogout (suc lines) moment at
  after_one lines at line some it =
      let leads : after_lines moment at (suc it.before) ≡ after_lines moment (next_of moment at line) it.before
      = turn_some moment it.before at line some in
      record {
        before = suc it.before;
        within = omega (arith, it.within);
        line = it.line;
        next = ap (next_line exec_semantics) leads ∙ it.next;
        is = subst (λ (state : ExecState). IsLogout state (file_session exec_semantics state it.line)) (sym leads) it.is;
      }

  counted : (taken : ℕ) → taken < FILE_LINES → next_count taken ≡ suc taken
  counted taken few = min-eq_left (omega (arith, few)) ∙ omega arith

  -- the outcome of the lines after the next one
  abbrev Later : ℕ → ℕ → Type 0
  Later lines taken = (next : ExecState) → Stands (suc taken) next → ended_of next ≡ false → ended_of (after moment lines next) ≡ true
      → HasLogout lines moment next

  -- of a line that is taken
  line_more : (lines taken : ℕ) (at : ExecState) (line : List ℕ) → next_line exec_semantics at ≡ Some line → taken < FILE_LINES
      → IsOpen taken at → ended_of at ≡ false → ended_of (after moment (suc lines) at) ≡ true → Later lines taken
      → HasLogout (suc lines) moment at
  line_more lines taken at line some few held on over more = by (ended_of (next_of moment at line)) refl where
    stands : Stands (suc taken) (next_of moment at line)
    stands =
        subst (λ (n : ℕ). Stands n (next_of moment at line)) (counted taken few)
        (closed_stands (next_count taken) (next_of moment at line) (file_line_stands at (file_session exec_semantics at line) moment taken held))

    by : (ended : Bool) → ended_of (next_of moment at line) ≡ ended → HasLogout (suc lines) moment at
    by true is = here lines at line some (file_line_logout at (file_session exec_semantics at line) moment held.waits on is)
    by false is =
        after_one lines at line some
        (more (next_of moment at line) stands is (sym (ap ended_of (turn_some moment lines at line some)) ∙ over))

  -- a turn more
  turn_logout : (lines taken : ℕ) (at : ExecState) → taken < FILE_LINES → Stands taken at → ended_of at ≡ false
      → ended_of (after moment (suc lines) at) ≡ true → Later lines taken → HasLogout (suc lines) moment at
  turn_logout lines taken at few stands on over more = either (HasLogout (suc lines) moment at) at taken (stands on) quiet taking where
    quiet : IsQuiet at → HasLogout (suc lines) moment at
    quiet it =
        further lines at
        (more at (quiet_stands (suc taken) at it) on (sym (ap ended_of (turn_none moment lines at (quiet_next at it.files))) ∙ over))

    taking : IsOpen taken at → HasLogout (suc lines) moment at
    taking held =
        let found = open_next at taken on held in line_more lines taken at found.0 found.1 few held on over more

  files_logout : (lines taken : ℕ) (at : ExecState) → taken + lines ≡ FILE_LINES → Stands taken at → ended_of at ≡ false
      → ended_of (after moment lines at) ≡ true → HasLogout lines moment at
  files_logout zero taken at all stands on over = no_end (ended_of at) on (sym (ap ended_of (none_after moment at)) ∙ over)
  files_logout (suc lines) taken at all stands on over =
      turn_logout lines taken at (omega (arith, all)) stands on over
      (λ next after going ended. files_logout lines (suc taken) next (omega (arith, all)) after going ended)

-- a line that is confirmed is done
ends_done : (class : KeyClass) (ending : Ending) → turn_of class ending ≡ turn.Confirmed → ending ≡ endings.Done
ends_done End endings.Done is = refl
ends_done End (endings.Fault fault) is = absurd (cc)
ends_done End (endings.Open place) is = absurd (cc)
ends_done Stop ending is = absurd (cc)
ends_done class ending is = absurd (cc)

-- each key
pub step_logout : (at : RunState ExecState) (key : ℕ) → IsQuiet at.state → at.state.interpreter.ended ≡ false
    → (step exec_semantics at key).state.interpreter.ended ≡ true → ConfirmsLogout at key
step_logout at key quiet on over = of_turn (turn_at exec_semantics at key) refl where
  line : is_line (exec_semantics.mode_of at.state) ≡ true
  line = ends_at_a_line at key on over

  left : ExecState
  left = left_by at.state (line_effects at.state (session_at at key) (moment_of at))

  confirmed : turn_at exec_semantics at key ≡ turn.Confirmed → (ended : Bool) → ended_of left ≡ ended → ConfirmsLogout at key
  confirmed is true ends =
      let found = line_logout at.state (session_at at key) (moment_of at) quiet.waits on ends in
      ConfirmsLogout.ByLine is (record {
        done = ends_done (class_at (line_before at.session) key) (session_at at key).ending is;
        main = found.0;
        command = found.1;
      })
  confirmed is false goes =
      ConfirmsLogout.ByFile is
      (files_logout (moment_of at) FILE_LINES 0 left (omega arith)
      (line_quiet at.state (session_at at key) (moment_of at)
      (line_typing at.state.interpreter.ended at.state.interpreter.typing at.state.interpreter.pending line) quiet)
      goes (sym (ap ended_of (confirmed_leads exec_semantics at key line is)) ∙ over))

  other : (to : Turn) → turn_at exec_semantics at key ≡ to → (to ≡ turn.Confirmed → ⊥) → ConfirmsLogout at key
  other to is not =
      no_end (step exec_semantics at key).state.interpreter.ended
      (goes_on_unconfirmed at key on line (λ (sure : turn_at exec_semantics at key ≡ turn.Confirmed). not (sym is ∙ sure))) over

  of_turn : (to : Turn) → turn_at exec_semantics at key ≡ to → ConfirmsLogout at key
  of_turn turn.Confirmed is = confirmed is (ended_of left) refl
  of_turn (turn.Refused fault) is = other (turn.Refused fault) is (λ (same : turn.Refused fault ≡ turn.Confirmed). cc)
  of_turn turn.Abandoned is = other turn.Abandoned is (λ (same : turn.Abandoned ≡ turn.Confirmed). cc)
  of_turn turn.Edited is = other turn.Edited is (λ (same : turn.Edited ≡ turn.Confirmed). cc)
  of_turn turn.Failed is = other turn.Failed is (λ (same : turn.Failed ≡ turn.Confirmed). cc)
