-- What a refused line leaves.
use Rattle.std.proofs.Common.{◌≡◌, ℕ, zero, suc, ◌+◌, ◌-◌, ◌<◌, ◌==◌, Bool, true, false, cond, List, [], ◌∷◌, ◌++◌, map, length, Option, None, Some, Ok, Err, Result, refl, sym, ap, ◌∙◌, arith}
use Rattle.cm_blocks.specs.declared.field.Ending.{Ending}
use Rattle.cm_blocks.specs.declared.field.Ending.TheVariants as endings
use Rattle.cm_blocks.specs.declared.field.Fault.{Fault}
use Rattle.cm_fields.specs.declared.code.Code.{Code}
use Rattle.cm_fields.specs.declared.code.Code.TheVariants.{NotInTake, TakeDepth}
use Rattle.cm_state.specs.SessionState.{SessionState}
use Rattle.cm_state.specs.declared.turn.Turn.{Turn}
use Rattle.cm_state.specs.declared.turn.Turn.TheVariants as turn
use Rattle.cm_run.specs.declared.engine.TheConstants.{FILE_LINES}
use Rattle.cm_run.specs.declared.mode.Mode.{Mode}
use Rattle.cm_run.specs.declared.mode.Mode.TheVariants as mode
use Rattle.cm_run.specs.Idle.{turn_at}
use Rattle.cm_run.specs.Keeping.{is_line}
use Rattle.cm_run.specs.Obey.{left_by}
use Rattle.cm_run.specs.Semantics.{Effect}
use Rattle.cm_run.specs.Trace.{Keystroke, RunState, file_session, keystroke_by, line_keystroke, line_start, next_line, run_state, step, step_by, step_of, turn_outcome}
use Rattle.cm_run.proofs.Acts.{left_append}
use Rattle.cm_run.proofs.LineTurns.{confirmed_leads, raw_leads}
use Rattle.ex_store.specs.Plan.{Planned, planned}
use Rattle.ex_store.specs.State.{State}
use Rattle.ex_store.specs.declared.place.Place.{Place}
use Rattle.ex_store.specs.declared.plan.Plan.TheVariants as plans
use Rattle.ex_commands.specs.Act.{act_of}
use Rattle.ex_commands.specs.Commands.Copy.{writes}
use Rattle.ex_commands.specs.Command.{is_pending}
use Rattle.ex_commands.specs.Effect.{plays}
use Rattle.ex_commands.specs.FileTyping.{bytes_after, echo_of, turn_of}
use Rattle.ex_commands.specs.declared.acted.Acted.{Acted}
use Rattle.ex_commands.specs.declared.acted.Acted.TheVariants as answers
use Rattle.ex_commands.specs.declared.command.Command.{Command}
use Rattle.ex_commands.specs.declared.command.Command.TheVariants as commands
use Rattle.ex_commands.specs.declared.pairs.Origin.TheVariants.{Terminal}
use Rattle.ex_commands.specs.declared.data.DataTurn.{DataTurn}
use Rattle.ex_commands.specs.declared.data.DataTurn.TheVariants as turns
use Rattle.ex_commands.proofs.Outcomes.{refusal_stays}
use Rattle.ex_take.specs.Exec.{acts, after_end, command_effects, counted, counts, end_effects, ending_effects, exec_semantics, fault_effects, file_line_effects, follows, innermost, is_over, lifted, line_by, line_effects, looks_ahead, next_fault, opened, opens, passed, pending_effects, refuses, settles, silent, stopped, take_effects, typing_effects, unwaiting}
use Rattle.ex_take.specs.ExecState.{ExecState}
use Rattle.ex_take.specs.Interpreter.{becomes, command_at, completion_answer, effect_of, pending_complete, pending_with, raw_answer, raw_by, subcommand_effects, typed_answer, typed_effects}
use Rattle.ex_take.specs.InterpreterState.{InterpreterState}
use Rattle.ex_take.specs.Logout.{after_lines, moment_of, session_at}
use Rattle.ex_take.specs.Refusals.{act_code, code_by, command_code, ending_code, file_line_code, line_code, stopped_by, unwritten}
use Rattle.ex_take.specs.declared.exec.TheConstants.{MOST_FILES}
use Rattle.ex_take.specs.declared.pending.Pending.{Pending}
use Rattle.ex_take.specs.declared.typing.Typing.{Typing}
use Rattle.ex_take.proofs.Quiet.{followed_left}
use Rattle.ex_take.proofs.QuietKeys.{after, next_of, none_after, none_next, quiet_next, turn_none, turn_some}
use Rattle.ex_take.proofs.Sequels.{left_lifted}

-- a code is that of a refusal
coded : (answer : Acted) (code : Code) → act_code answer ≡ Some code → answer ≡ answers.Refused code
coded (answers.Refused other) code is = let same : other ≡ code = cc in ap answers.Refused same
coded answers.Ok code is = absurd (cc)
coded answers.Pending code is = absurd (cc)
coded answers.Data code is = absurd (cc)
coded answers.Take code is = absurd (cc)
coded answers.Logout code is = absurd (cc)
coded answers.NoMemory code is = absurd (cc)
coded answers.Failed code is = absurd (cc)

-- an act that is refused leaves the EXEC as it is
act_left : (interpreter : InterpreterState) (moment : ℕ) (command : Command) (code : Code)
    → (act_of command moment interpreter.state).answer ≡ answers.Refused code → (effect_of interpreter moment command).state ≡ interpreter
unfolding becomes
act_left interpreter moment command code is =
    ap (λ (it : Acted). record (becomes interpreter moment command it) { state = (act_of command moment interpreter.state).state }) is
    ∙ ap (λ (it : State). record interpreter { state = it }) (refusal_stays command moment interpreter.state code is).0

pub acts_left : (at : ExecState) (moment : ℕ) (command : Command) (code : Code)
    → (act_of command moment at.interpreter.state).answer ≡ answers.Refused code → left_by at (acts at moment command) ≡ stopped code at
unfolding follows
acts_left at moment command code is =
    let acted : ExecState = record at { interpreter = (effect_of at.interpreter moment command).state } in
    ap (λ (it : Acted). left_by acted (follows acted it)) is
    ∙ ap (λ (it : InterpreterState). stopped code (record at { interpreter = it })) (act_left at.interpreter moment command code is)

-- what a line commands
take_left : (at : ExecState) (file : Place) (code : Code) → command_code at 0 (commands.Take file) ≡ Some code
    → left_by at (take_effects at file) ≡ stopped code at
take_left at file code = by (length at.files == MOST_FILES) where
  by : (full : Bool) → cond full (Some TakeDepth) None ≡ Some code
      → left_by at (cond full (refuses TakeDepth at ∷ []) (opens at file ∷ settles (opened at file))) ≡ stopped code at
  by true is = let same : TakeDepth ≡ code = cc in ap (λ (it : Code). stopped it at) same
  by false is = absurd (cc)

typing_left : (at : ExecState) (moment : ℕ) (to : Place) (code : Code) → command_code at moment (commands.CopyTty to) ≡ Some code
    → left_by at (typing_effects at moment to) ≡ stopped code at
typing_left at moment to code = by (length at.files == 0) where
  by : (none : Bool) → cond none (act_code (act_of (commands.CopyTty to) moment at.interpreter.state).answer) (Some NotInTake) ≡ Some code
      → left_by at (cond none (acts at moment (commands.CopyTty to)) (refuses NotInTake at ∷ [])) ≡ stopped code at
  by true is = acts_left at moment (commands.CopyTty to) code (coded _ code is)
  by false is = let same : NotInTake ≡ code = cc in ap (λ (it : Code). stopped it at) same

commands_left : (at : ExecState) (moment : ℕ) (command : Command) (code : Code) → command_code at moment command ≡ Some code
    → left_by at (command_effects at moment command) ≡ stopped code at
unfolding command_effects
commands_left at moment (commands.Take file) code is = take_left at file code is
commands_left at moment (commands.CopyTty to) code is = typing_left at moment to code is
commands_left at moment command code is = acts_left at moment command code (coded _ code is)

-- a command that waited acts after its last subcommand
module _ (at : ExecState) (whole : Pending) (code : Code) (is : completion_answer at.interpreter whole ≡ answers.Refused code) where
  abbrev on : ExecState
  on = unwaiting at

  subs_left : left_by on.interpreter (subcommand_effects on.interpreter whole) ≡ on.interpreter
  subs_left = by (is_pending whole.command) is where
    by : (test : Bool) → cond test answers.Pending (act_of whole.command whole.moment at.interpreter.state).answer ≡ answers.Refused code
        → left_by (record on.interpreter { pending = Some whole }) (cond test [] (effect_of on.interpreter whole.moment whole.command ∷ [])) ≡ on.interpreter
    by true is = absurd (cc)
    by false is = act_left on.interpreter whole.moment whole.command code is

  -- whatever follows, which closes all after a refusal
  subs_stopped : (next : ExecState → Acted → List (Effect ExecState)) → next on (answers.Refused code) ≡ silent (stopped code on) ∷ []
      → left_by on (map (lifted on) (subcommand_effects on.interpreter whole)
      ++ next (record on { interpreter = left_by on.interpreter (subcommand_effects on.interpreter whole) }) (completion_answer on.interpreter whole))
      ≡ stopped code at
  subs_stopped next stops =
      let effects = subcommand_effects on.interpreter whole in
      let answer = completion_answer on.interpreter whole in
      followed_left on effects (next (record on { interpreter = left_by on.interpreter effects }) answer)
      ∙ ap (λ (it : InterpreterState). left_by (record on { interpreter = it }) (next (record on { interpreter = it }) answer)) subs_left
      ∙ ap (λ (it : Acted). left_by on (next on it)) is
      ∙ ap (λ (it : List (Effect ExecState)). left_by on it) stops

  follows_stopped : follows on (answers.Refused code) ≡ silent (stopped code on) ∷ []
  unfolding follows
  follows_stopped = refl

  end_stopped : after_end on (answers.Refused code) ≡ silent (stopped code on) ∷ []
  unfolding after_end
  end_stopped = refl

pending_left : (at : ExecState) (session : SessionState) (pending : Pending) (code : Code)
    → act_code (completion_answer at.interpreter (pending_with session pending)) ≡ Some code
    → left_by at (pending_effects (unwaiting at) session pending) ≡ stopped code at
pending_left at session pending code is =
    let refused = coded _ code is in
    subs_stopped at (pending_with session pending) code refused follows (follows_stopped at (pending_with session pending) code refused)

-- at the end of a file
pub end_left : (at : ExecState) (pending : Pending) (code : Code) → at.interpreter.pending ≡ Some pending
    → is_over (innermost at.files) ≡ true → completion_answer at.interpreter (pending_complete pending) ≡ answers.Refused code
    → left_by at (settles at) ≡ stopped code at
unfolding settles
end_left at pending code waits over refused =
    ap (λ (test : Bool). left_by at (cond test (end_effects at at.interpreter.pending) (looks_ahead at))) over
    ∙ ap (λ (it : Option Pending). left_by at (end_effects at it)) waits
    ∙ subs_stopped at (pending_complete pending) code refused after_end (end_stopped at (pending_complete pending) code refused)

-- a line whose parse is done
pub line_left : (at : ExecState) (session : SessionState) (moment : ℕ) (code : Code) → line_code at session moment ≡ Some code
    → left_by at (line_effects at session moment) ≡ stopped code at
unfolding line_effects
line_left at session moment code = by at.interpreter.pending where
  by : (pending : Option Pending) → code_by at session moment pending ≡ Some code → left_by at (line_by at session moment pending) ≡ stopped code at
  by None is = commands_left at moment (command_at at.interpreter session) code is
  by (Some pending) is = pending_left at session pending code is

-- a line of a command file
endings_left : (at : ExecState) (session : SessionState) (moment : ℕ) (code : Code) (ending : Ending)
    → ending_code at session moment ending ≡ Some code → left_by at (ending_effects at session moment ending) ≡ stopped code at
endings_left at session moment code endings.Done is = line_left at session moment code is
endings_left at session moment code (endings.Fault fault) is = let same : fault.code ≡ code = cc in ap (λ (it : Code). stopped it at) same
endings_left at session moment code (endings.Open place) is = absurd (cc)

pub file_line_left : (at : ExecState) (session : SessionState) (moment : ℕ) (code : Code) → file_line_code at session moment ≡ Some code
    → left_by at (file_line_effects at session moment) ≡ stopped code at
file_line_left at session moment code is = endings_left (passed at) session moment code session.ending is

pub ahead_left : (at : ExecState) → left_by at (looks_ahead at) ≡ stopped_by (next_fault at.taken (innermost at.files)) at
unfolding looks_ahead
ahead_left at = by (next_fault at.taken (innermost at.files)) where
  by : (fault : Option Code) → left_by at (fault_effects at fault) ≡ stopped_by fault at
  by None = refl
  by (Some code) = refl

-- a whole step
module _ (at : RunState ExecState) (key : ℕ) where
  of_line : (it : Mode) → is_line it ≡ true → keystroke_by exec_semantics at key it ≡ line_keystroke exec_semantics at key
  of_line (mode.Line node prompt takes) line = refl
  of_line mode.Raw line = absurd (cc)
  of_line mode.Ended line = absurd (cc)

  turned : (to : Turn) → is_line (exec_semantics.mode_of at.state) ≡ true → turn_at exec_semantics at key ≡ to
      → step exec_semantics at key
      ≡ step_of exec_semantics (session_at at key) at.state at.moments (turn_outcome exec_semantics at.state (session_at at key) (moment_of at) to)
  unfolding line_keystroke
  turned to line is =
      ap (λ (s : Keystroke ExecState). step_by exec_semantics at s) (of_line (exec_semantics.mode_of at.state) line)
      ∙ ap (λ (it : Turn). step_of exec_semantics (session_at at key) at.state at.moments
      (turn_outcome exec_semantics at.state (session_at at key) (moment_of at) it)) is

  pub refusal_step : (fault : Fault) → is_line (exec_semantics.mode_of at.state) ≡ true → turn_at exec_semantics at key ≡ turn.Refused fault
      → step exec_semantics at key
      ≡ run_state (line_start (exec_semantics.mode_of at.state) (session_at at key)) (counted at.state) at.moments
  unfolding step_of turn_outcome
  refusal_step fault line is = turned (turn.Refused fault) line is

  pub abandonment_step : is_line (exec_semantics.mode_of at.state) ≡ true → turn_at exec_semantics at key ≡ turn.Abandoned
      → step exec_semantics at key
      ≡ run_state (line_start (exec_semantics.mode_of (unwaiting at.state)) (session_at at key)) (unwaiting at.state) at.moments
  unfolding step_of turn_outcome
  abandonment_step line is = turned turn.Abandoned line is

  -- no line of a file is taken after a refusal
  stopped_after : (moment lines : ℕ) (code : Code) (found : ExecState) → after moment lines (stopped code found) ≡ stopped code found
  stopped_after moment lines code found = none_next moment lines (stopped code found) (quiet_next (stopped code found) refl)

  pub confirmed_step : (code : Code) → is_line (exec_semantics.mode_of at.state) ≡ true → turn_at exec_semantics at key ≡ turn.Confirmed
      → line_code at.state (session_at at key) (moment_of at) ≡ Some code → (step exec_semantics at key).state ≡ stopped code at.state
  confirmed_step code line is refused =
      confirmed_leads exec_semantics at key line is
      ∙ ap (λ (it : ExecState). after (moment_of at) FILE_LINES it) (line_left at.state (session_at at key) (moment_of at) code refused)
      ∙ stopped_after (moment_of at) FILE_LINES code at.state

-- the lines of files, one after the other
parted : (moment before more : ℕ) (at : ExecState) → after moment (before + more) at ≡ after moment more (after moment before at)
parted moment zero more at =
    let none : 0 + more ≡ more = omega arith in
    ap (λ (n : ℕ). after moment n at) none ∙ ap (λ (it : ExecState). after moment more it) (sym (none_after moment at))
parted moment (suc before) more at =
    let one : suc before + more ≡ suc (before + more) = omega arith in
    ap (λ (n : ℕ). after moment n at) one
    ∙ by (next_line exec_semantics at) refl (parted moment before more at) (λ line. parted moment before more (next_of moment at line)) where
      by : (line : Option (List ℕ)) → next_line exec_semantics at ≡ line
          → after moment (before + more) at ≡ after moment more (after moment before at)
          → ((line : List ℕ) → after moment (before + more) (next_of moment at line)
          ≡ after moment more (after moment before (next_of moment at line)))
          → after moment (suc (before + more)) at ≡ after moment more (after moment (suc before) at)
      by None is here there =
          turn_none moment (before + more) at is ∙ here
          ∙ ap (λ (it : ExecState). after moment more it) (sym (turn_none moment before at is))
      by (Some line) is here there =
          turn_some moment (before + more) at line is ∙ there line
          ∙ ap (λ (it : ExecState). after moment more it) (sym (turn_some moment before at line is))

-- one of them is refused
taken_stopped : (moment before most : ℕ) (at : ExecState) (line : List ℕ) (code : Code) → before < most
    → next_line exec_semantics (after moment before at) ≡ Some line
    → file_line_code (after moment before at) (file_session exec_semantics (after moment before at) line) moment ≡ Some code
    → after moment most at ≡ stopped code (after moment before at)
taken_stopped moment before most at line code few next refused =
    let found = after moment before at in
    let more = most - suc before in
    let all : most ≡ before + suc more = omega (arith, few) in
    ap (λ (n : ℕ). after moment n at) all ∙ parted moment before (suc more) at
    ∙ turn_some moment more found line next
    ∙ ap (λ (it : ExecState). after moment more it) (file_line_left found (file_session exec_semantics found line) moment code refused)
    ∙ none_next moment more (stopped code found) (quiet_next (stopped code found) refl)

pub taken_step : (at : RunState ExecState) (key before : ℕ) (line : List ℕ) (code : Code) (opened : ExecState)
    → is_line (exec_semantics.mode_of at.state) ≡ true → turn_at exec_semantics at key ≡ turn.Confirmed
    → opened ≡ left_by at.state (line_effects at.state (session_at at key) (moment_of at)) → before < FILE_LINES
    → next_line exec_semantics (after_lines (moment_of at) opened before) ≡ Some line
    → file_line_code (after_lines (moment_of at) opened before) (file_session exec_semantics (after_lines (moment_of at) opened before) line)
    (moment_of at) ≡ Some code
    → (step exec_semantics at key).state ≡ stopped code (after_lines (moment_of at) opened before)
taken_step at key before line code opened is_at is leads few next refused =
    confirmed_leads exec_semantics at key is_at is
    ∙ ap (λ (it : ExecState). after (moment_of at) FILE_LINES it) (sym leads)
    ∙ taken_stopped (moment_of at) before FILE_LINES opened line code few next refused

-- a file that is typed in, and is refused
write_stays : (to : Place) (bytes : List ℕ) (moment : ℕ) (state : State) (code : Code)
    → (writes to bytes moment state).answer ≡ answers.Refused code → (writes to bytes moment state).state ≡ state
unfolding writes
write_stays to bytes moment state code = by (planned (plans.Write to bytes) moment state) where
  by : (made : Result Planned Code) → (plays Terminal made state).answer ≡ answers.Refused code → (plays Terminal made state).state ≡ state
  by (Ok made) is = absurd (cc)
  by (Err other) is = refl

turn_left : (interpreter : InterpreterState) (to : Typing) (turn : DataTurn) (code : Code) → typed_answer interpreter to turn ≡ answers.Refused code
    → left_by interpreter (typed_effects interpreter to turn) ≡ record interpreter { typing = None }
unfolding typed_effects
turn_left interpreter to turns.More code is = absurd (cc)
turn_left interpreter to turns.Write code is =
    ap (λ (it : State). record interpreter { typing = None; state = it }) (write_stays to.to to.typed to.moment interpreter.state code is)
turn_left interpreter to turns.Dropped code is = absurd (cc)

raw_left : (interpreter : InterpreterState) (key : ℕ) (typing : Option Typing) (code : Code) → raw_answer interpreter key typing ≡ answers.Refused code
    → left_by interpreter (raw_by interpreter key typing) ≡ record interpreter { typing = None }
raw_left interpreter key None code is = absurd (cc)
raw_left interpreter key (Some typing) code is =
    turn_left interpreter (record typing { typed = bytes_after typing.typed key }) (turn_of (echo_of typing.typed key)) code is

pub write_step : (at : RunState ExecState) (key : ℕ) (code : Code) → is_line (exec_semantics.mode_of at.state) ≡ false
    → raw_answer at.state.interpreter key at.state.interpreter.typing ≡ answers.Refused code
    → (step exec_semantics at key).state ≡ unwritten at.state
write_step at key code raw is =
    let exec = at.state in
    let effects = raw_by exec.interpreter key exec.interpreter.typing in
    let answer = raw_answer exec.interpreter key exec.interpreter.typing in
    let left : ExecState = record exec { interpreter = left_by exec.interpreter effects } in
    raw_leads exec_semantics at key raw
    ∙ left_append (map (lifted exec) effects) (counts left answer) exec
    ∙ ap (λ (it : ExecState). left_by it (counts left answer)) (left_lifted exec effects exec.interpreter)
    ∙ ap (λ (it : Acted). left_by left (counts left it)) is
    ∙ ap (λ (it : InterpreterState). counted (record exec { interpreter = it }))
    (raw_left exec.interpreter key exec.interpreter.typing code is)
