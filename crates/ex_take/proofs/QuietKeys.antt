-- What each key leaves of the command files.
use Rattle.std.proofs.Common.{◌≡◌, ◌⊎◌, inl, inr, ℕ, zero, suc, ◌+◌, ◌<◌, ◌==◌, Bool, true, false, cond, List, [], ◌∷◌, ◌++◌, map, length, Option, None, Some, refl, sym, ap, ◌∙◌, subst, arith}
use Rattle.std.proofs.Math.Nat.{min-eq_left}
use Rattle.std.proofs.lemmas.Bool.Decides.{nat_tests}
use Rattle.std.proofs.lemmas.List.Sums.{fold-append}
use Rattle.cm_io.specs.Fault.{next_count}
use Rattle.cm_fields.specs.declared.code.Code.TheVariants.{BadLine, LineLimit}
use Rattle.cm_state.specs.declared.turn.Turn.{Turn}
use Rattle.cm_state.specs.declared.turn.Turn.TheVariants as turn
use Rattle.cm_run.specs.declared.engine.TheConstants.{FILE_LINES}
use Rattle.cm_run.specs.declared.mode.Mode.{Mode}
use Rattle.cm_run.specs.declared.mode.Mode.TheVariants as mode
use Rattle.cm_run.specs.Event.{state_after, state_after_event}
use Rattle.cm_run.specs.Idle.{turn_at}
use Rattle.cm_run.specs.Keeping.{is_line}
use Rattle.cm_run.specs.Obey.{left_by}
use Rattle.cm_run.specs.Trace.{RunState, file_line_trace, file_session, file_trace, line_by, next_line, step}
use Rattle.cm_run.proofs.LineTurns.{abandonment_leads, confirmed_leads, edit_leads, fault_leads, moment_of, raw_leads, refusal_leads, session_at}
use Rattle.cm_run.proofs.Acts.{left_append}
use Rattle.cm_run.proofs.Screens.{state-effects}
use Rattle.ex_commands.specs.FileTyping.{bytes_after, echo_of, turn_of}
use Rattle.ex_commands.specs.declared.acted.Acted.{Acted}
use Rattle.ex_commands.specs.declared.acted.Acted.TheVariants as answers
use Rattle.ex_commands.specs.declared.data.DataTurn.{DataTurn}
use Rattle.ex_commands.specs.declared.data.DataTurn.TheVariants as turns
use Rattle.ex_take.specs.Exec.{counts, exec_semantics, file_line_effects, innermost, is_over, lifted, line_in, next_fault, raw_effects}
use Rattle.ex_take.specs.ExecState.{ExecState}
use Rattle.ex_take.specs.Interpreter.{mode_by, mode_of, raw_answer, raw_by, typed_effects}
use Rattle.ex_take.specs.InterpreterState.{InterpreterState}
use Rattle.ex_take.specs.Lines as file_line
use Rattle.ex_take.specs.Quiet.{IsQuiet, IsQuietUnlessEnded, Waits}
use Rattle.ex_take.specs.declared.pending.Pending.{Pending}
use Rattle.ex_take.specs.declared.typing.Typing.{Typing}
use Rattle.ex_take.proofs.Files.{some_last}
use Rattle.ex_take.proofs.Sequels.{left_lifted}
use Rattle.ex_take.proofs.Quiet.{AreClosed, IsOpen, Stands, StandsClosed, closed_quiet, ended_not}
use Rattle.ex_take.proofs.QuietLines.{file_line_stands, line_quiet}

-- where no file is open none of its lines is next
no_next : (it : Mode) → line_by it None ≡ None
no_next (mode.Line node prompt takes_moment) = refl
no_next mode.Raw = refl
no_next mode.Ended = refl

pub quiet_next : (at : ExecState) → at.files ≡ [] → next_line exec_semantics at ≡ None
quiet_next at none =
    ap (λ (files : List (List (List ℕ))). line_by (mode_of at.interpreter) (line_in (innermost files))) none ∙ no_next (mode_of at.interpreter)

ended_next : (at : ExecState) → at.interpreter.ended ≡ true → next_line exec_semantics at ≡ None
ended_next at ended =
    ap (λ (it : Bool). line_by (mode_by it at.interpreter.typing at.interpreter.pending) (line_in (innermost at.files))) ended

-- and where one is open it is
line_mode_by : (ended : Bool) (typing : Option Typing) (pending : Option Pending) (line : Option (List ℕ)) → ended ≡ false → typing ≡ None
    → line_by (mode_by ended typing pending) line ≡ line
line_mode_by true typing pending line going none = absurd (cc)
line_mode_by false (Some typing) pending line going none = absurd (cc)
line_mode_by false None None line going none = refl
line_mode_by false None (Some pending) line going none = refl

no_last : (files : List (List (List ℕ))) → (length files == 0) ≡ false → innermost files ≡ None → ⊥
no_last [] some none = cc
no_last (file ∷ files) some none = some_last file files none

taken_line : (line : List ℕ) (full parsable : Bool) → cond full (Some LineLimit) (cond parsable None (Some BadLine)) ≡ None
    → cond parsable (Some line) None ≡ Some line
taken_line line true parsable is = absurd (cc)
taken_line line false true is = refl
taken_line line false false is = absurd (cc)

last_line : (taken : ℕ) (last : Option (List (List ℕ))) → is_over last ≡ false → next_fault taken last ≡ None → (last ≡ None → ⊥)
    → (line : List ℕ) × (line_in last ≡ Some line)
last_line taken None on fault some = absurd (some refl)
last_line taken (Some []) on fault some = absurd (cc)
last_line taken (Some (line ∷ lines)) on fault some = (line, taken_line line (taken == FILE_LINES) (file_line.is_line line) fault)

pub open_next : (at : ExecState) (taken : ℕ) → at.interpreter.ended ≡ false → IsOpen taken at → (line : List ℕ) × (next_line exec_semantics at ≡ Some line)
open_next at taken going held =
    let found = last_line at.taken (innermost at.files) held.on held.fault (no_last at.files held.some) in
    (found.0, line_mode_by at.interpreter.ended at.interpreter.typing at.interpreter.pending (line_in (innermost at.files)) going held.line ∙ found.1)

-- but never after as many lines as may be taken
full_faults : (taken : ℕ) (last : Option (List (List ℕ))) → taken ≡ FILE_LINES → is_over last ≡ false → next_fault taken last ≡ None
    → (last ≡ None → ⊥) → ⊥
full_faults taken None is on fault some = some refl
full_faults taken (Some []) is on fault some = cc
full_faults taken (Some (line ∷ lines)) is on fault some =
    let full : (taken == FILE_LINES) ≡ true = grind (arith, nat_tests, is) in
    let wrong : Some LineLimit ≡ None
    = sym (ap (λ (test : Bool). cond test (Some LineLimit) (cond (file_line.is_line line) None (Some BadLine))) full) ∙ fault in cc

-- the lines that wait are taken, until none is open
pub either : (A : Type 0) (at : ExecState) (taken : ℕ) → IsQuiet at ⊎ IsOpen taken at → (IsQuiet at → A) → (IsOpen taken at → A) → A
either A at taken (inl quiet) one other = one quiet
either A at taken (inr held) one other = other held

-- nothing is left, unless LOGOUT has acted
abbrev pub AreClosedUnlessEnded : ExecState → Type 0
AreClosedUnlessEnded at = at.interpreter.ended ≡ false → AreClosed at

module _ (moment : ℕ) where
  abbrev pub after : ℕ → ExecState → ExecState
  after lines at = state_after at (file_trace exec_semantics lines moment at)

  -- the outcome of a turn, by the line that is next
  abbrev by_line : ℕ → ExecState → Option (List ℕ) → ExecState
  by_line lines at line =
      let events = file_line_trace exec_semantics moment at line in
      state_after at (events ++ file_trace exec_semantics lines moment (state_after at events))

  turn_is : (lines : ℕ) (at : ExecState) → after (suc lines) at ≡ by_line lines at (next_line exec_semantics at)
  unfolding file_trace
  turn_is lines at = refl

  pub turn_none : (lines : ℕ) (at : ExecState) → next_line exec_semantics at ≡ None → after (suc lines) at ≡ after lines at
  turn_none lines at none = turn_is lines at ∙ ap (λ (line : Option (List ℕ)). by_line lines at line) none

  abbrev pub next_of : ExecState → List ℕ → ExecState
  next_of at line = left_by at (file_line_effects at (file_session exec_semantics at line) moment)

  pub turn_some : (lines : ℕ) (at : ExecState) (line : List ℕ) → next_line exec_semantics at ≡ Some line
      → after (suc lines) at ≡ after lines (next_of at line)
  turn_some lines at line some =
      let events = file_line_trace exec_semantics moment at (Some line) in
      let effects = file_line_effects at (file_session exec_semantics at line) moment in
      let leads : state_after at events ≡ next_of at line = state-effects effects at in
      turn_is lines at ∙ ap (λ (it : Option (List ℕ)). by_line lines at it) some
      ∙ fold-append state_after_event at events (file_trace exec_semantics lines moment (state_after at events))
      ∙ ap (λ (it : ExecState). state_after it (file_trace exec_semantics lines moment (state_after at events))) leads
      ∙ ap (λ (it : ExecState). state_after (next_of at line) (file_trace exec_semantics lines moment it)) leads

  pub none_after : (at : ExecState) → after 0 at ≡ at
  unfolding file_trace
  none_after at = refl

  pub none_next : (lines : ℕ) (at : ExecState) → next_line exec_semantics at ≡ None → after lines at ≡ at
  none_next zero at none = none_after at
  none_next (suc lines) at none = turn_none lines at none ∙ none_next lines at none

  -- a turn more
  turn_closed : (lines taken : ℕ) (at : ExecState) → taken < FILE_LINES → StandsClosed taken at
      → ((next : ExecState) → StandsClosed (suc taken) next → AreClosedUnlessEnded (after lines next)) → AreClosedUnlessEnded (after (suc lines) at)
  turn_closed lines taken at few stands more = by at.interpreter.ended refl where
    stay : next_line exec_semantics at ≡ None → StandsClosed (suc taken) at → AreClosedUnlessEnded (after (suc lines) at)
    stay none next = subst (λ (it : ExecState). AreClosedUnlessEnded it) (sym (turn_none lines at none)) (more at next)

    counted : next_count taken ≡ suc taken
    counted = min-eq_left (omega (arith, few)) ∙ omega arith

    go : at.interpreter.ended ≡ false → IsOpen taken at → AreClosedUnlessEnded (after (suc lines) at)
    go going held =
        let found = open_next at taken going held in
        subst (λ (it : ExecState). AreClosedUnlessEnded it) (sym (turn_some lines at found.0 found.1))
        (more (next_of at found.0)
        (subst (λ (n : ℕ). StandsClosed n (next_of at found.0)) counted
        (file_line_stands at (file_session exec_semantics at found.0) moment taken held)))

    of_stand : at.interpreter.ended ≡ false → AreClosed at ⊎ IsOpen taken at → AreClosedUnlessEnded (after (suc lines) at)
    of_stand going (inl closed) = stay (quiet_next at closed.files) (λ on. inl closed)
    of_stand going (inr held) = go going held

    by : (ended : Bool) → at.interpreter.ended ≡ ended → AreClosedUnlessEnded (after (suc lines) at)
    by true is = stay (ended_next at is) (ended_not at (suc taken) is)
    by false is = of_stand is (stands is)

  files_closed : (lines taken : ℕ) (at : ExecState) → taken + lines ≡ FILE_LINES → StandsClosed taken at → AreClosedUnlessEnded (after lines at)
  files_closed zero taken at all stands = subst (λ (it : ExecState). AreClosedUnlessEnded it) (sym (none_after at)) (λ going. by (stands going)) where
    by : AreClosed at ⊎ IsOpen taken at → AreClosed at
    by (inl closed) = closed
    by (inr held) = absurd (full_faults at.taken (innermost at.files) (held.count ∙ omega (arith, all)) held.on held.fault (no_last at.files held.some))
  files_closed (suc lines) taken at all stands =
      turn_closed lines taken at (omega (arith, all)) stands (λ next after. files_closed lines (suc taken) next (omega (arith, all)) after)

  -- as many lines as may be taken of the files that a line has opened
  pub all_closed : (at : ExecState) → StandsClosed 0 at → AreClosedUnlessEnded (after FILE_LINES at)
  all_closed at stands = files_closed FILE_LINES 0 at (omega arith) stands

  files_quiet : (at : ExecState) → Stands 0 at → IsQuietUnlessEnded (after FILE_LINES at)
  files_quiet at stands = by at.interpreter.ended refl where
    stay : next_line exec_semantics at ≡ None → IsQuietUnlessEnded at → IsQuietUnlessEnded (after FILE_LINES at)
    stay none quiet = subst (λ (it : ExecState). IsQuietUnlessEnded it) (sym (none_next FILE_LINES at none)) quiet

    taking : IsOpen 0 at → IsQuietUnlessEnded (after FILE_LINES at)
    taking held = λ going. closed_quiet (after FILE_LINES at) (all_closed at (λ on. inr held) going)

    by : (ended : Bool) → at.interpreter.ended ≡ ended → IsQuietUnlessEnded (after FILE_LINES at)
    by true is = stay (ended_next at is) (λ going. let wrong : true ≡ false = sym is ∙ going in absurd (cc))
    by false is =
        either (IsQuietUnlessEnded (after FILE_LINES at)) at 0 (stands is)
        (λ quiet. stay (quiet_next at quiet.files) (λ going. quiet)) (λ held. taking held)

-- a raw key
raw_waits : (interpreter : InterpreterState) (to : Typing) (turn : DataTurn)
    → (left_by interpreter (typed_effects interpreter to turn)).pending ≡ interpreter.pending
unfolding typed_effects
raw_waits interpreter to turns.More = refl
raw_waits interpreter to turns.Write = refl
raw_waits interpreter to turns.Dropped = refl

keys_wait : (interpreter : InterpreterState) (key : ℕ) (typing : Option Typing) → (left_by interpreter (raw_by interpreter key typing)).pending ≡ interpreter.pending
keys_wait interpreter key None = refl
keys_wait interpreter key (Some typing) =
    raw_waits interpreter (record typing { typed = bytes_after typing.typed key }) (turn_of (echo_of typing.typed key))

counts_quiet : (at : ExecState) (answer : Acted) → IsQuiet at → IsQuiet (left_by at (counts at answer))
counts_quiet at (answers.Refused code) quiet = record { files = quiet.files; taken = quiet.taken; waits = quiet.waits }
counts_quiet at answer quiet = quiet

raw_quiet : (at : ExecState) (key : ℕ) → IsQuiet at → IsQuiet (left_by at (raw_effects at key))
raw_quiet at key quiet =
    let effects = raw_by at.interpreter key at.interpreter.typing in
    let answer = raw_answer at.interpreter key at.interpreter.typing in
    let left = record at { interpreter = left_by at.interpreter effects } in
    subst (λ (it : ExecState). IsQuiet it)
    (sym (left_append (map (lifted at) effects) (counts left answer) at ∙ ap (λ (it : ExecState). left_by it (counts left answer)) (left_lifted at effects at.interpreter)))
    (counts_quiet left answer (record {
      files = quiet.files;
      taken = quiet.taken;
      waits = subst (λ (it : Option Pending). Waits it) (sym (keys_wait at.interpreter key at.interpreter.typing)) quiet.waits;
    }))

-- while a file is typed in the next key is for no line
pub line_typing : (ended : Bool) (typing : Option Typing) (pending : Option Pending) → is_line (mode_by ended typing pending) ≡ true → typing ≡ None
line_typing true typing pending line = absurd (cc)
line_typing false (Some typing) pending line = absurd (cc)
line_typing false None pending line = refl

-- each key
pub step_quiet : (at : RunState ExecState) (key : ℕ) → IsQuiet at.state → IsQuietUnlessEnded (step exec_semantics at key).state
step_quiet at key quiet = by (is_line (mode_of at.state.interpreter)) refl where
  leads : (to : ExecState) → (step exec_semantics at key).state ≡ to → IsQuiet to → IsQuietUnlessEnded (step exec_semantics at key).state
  leads to is left = λ going. subst (λ (it : ExecState). IsQuiet it) (sym is) left

  confirmed : is_line (mode_of at.state.interpreter) ≡ true → turn_at exec_semantics at key ≡ turn.Confirmed → IsQuietUnlessEnded (step exec_semantics at key).state
  confirmed line is =
      let left = left_by at.state (exec_semantics.line_effects at.state (session_at exec_semantics at key) (moment_of exec_semantics at)) in
      subst (λ (it : ExecState). IsQuietUnlessEnded it) (sym (confirmed_leads exec_semantics at key line is))
      (files_quiet (moment_of exec_semantics at) left
      (line_quiet at.state (session_at exec_semantics at key) (moment_of exec_semantics at)
      (line_typing at.state.interpreter.ended at.state.interpreter.typing at.state.interpreter.pending line) quiet))

  of_turn : (to : Turn) → is_line (mode_of at.state.interpreter) ≡ true → turn_at exec_semantics at key ≡ to → IsQuietUnlessEnded (step exec_semantics at key).state
  of_turn turn.Confirmed line is = confirmed line is
  of_turn (turn.Refused fault) line is =
      leads (exec_semantics.refusal at.state) (refusal_leads exec_semantics at key fault line is)
      (record { files = quiet.files; taken = quiet.taken; waits = quiet.waits })
  of_turn turn.Abandoned line is =
      leads (exec_semantics.abandonment at.state) (abandonment_leads exec_semantics at key line is)
      (record { files = quiet.files; taken = quiet.taken; waits = tt })
  of_turn turn.Edited line is = leads at.state (edit_leads exec_semantics at key line is) quiet
  of_turn turn.Failed line is = leads at.state (fault_leads exec_semantics at key line is) quiet

  by : (line : Bool) → is_line (mode_of at.state.interpreter) ≡ line → IsQuietUnlessEnded (step exec_semantics at key).state
  by true is = of_turn (turn_at exec_semantics at key) is refl
  by false is = leads (left_by at.state (raw_effects at.state key)) (raw_leads exec_semantics at key is) (raw_quiet at.state key quiet)
