-- A line ends the run where it commands LOGOUT, and else what it does goes on.
use Rattle.std.proofs.Common.{◌≡◌, ℕ, Bool, true, false, cond, ◌==◌, List, [], ◌∷◌, length, Option, None, Some, refl, sym, ap, ◌∙◌}
use Rattle.cm_fields.specs.declared.code.Code.{Code}
use Rattle.cm_fields.specs.declared.code.Code.TheVariants.{NotInTake, TakeDepth}
use Rattle.cm_blocks.specs.declared.field.Ending.{Ending}
use Rattle.cm_blocks.specs.declared.field.Ending.TheVariants as endings
use Rattle.cm_state.specs.SessionState.{SessionState}
use Rattle.cm_run.specs.Semantics.{Effect}
use Rattle.cm_run.specs.Obey.{left_by}
use Rattle.ex_store.specs.declared.place.Place.{Place}
use Rattle.ex_commands.specs.Command.{is_pending}
use Rattle.ex_commands.specs.declared.acted.Acted.{Acted}
use Rattle.ex_commands.specs.declared.acted.Acted.TheVariants as answers
use Rattle.ex_commands.specs.declared.command.Command.{Command}
use Rattle.ex_commands.specs.declared.command.Command.TheVariants as commands
use Rattle.ex_commands.proofs.Outcomes.{comes}
use Rattle.ex_take.specs.Exec.{acts, after_end, closed, closes, command_effects, completion_effects, end_effects, ending_effects, fault_effects, file_line_effects, follows, innermost, is_over, line_by, line_effects, looks_ahead, next_fault, opened, opens, passed, pending_effects, refuses, settles, take_effects, typing_effects, unwaiting}
use Rattle.ex_take.specs.ExecState.{ExecState}
use Rattle.ex_take.specs.Interpreter.{command_at, completion_answer, effect_of, pending_complete, subcommand_effects}
use Rattle.ex_take.specs.Logout.{IsLogout}
use Rattle.ex_take.specs.Quiet.{Waits}
use Rattle.ex_take.specs.declared.exec.TheConstants.{MOST_FILES}
use Rattle.ex_take.specs.declared.pending.Pending.{Pending}
use Rattle.ex_take.proofs.Keys.{act_ends}
use Rattle.ex_take.proofs.Quiet.{complete_stays, complete_waits_not, followed_left, sub_goes, takes_subs}
use Rattle.ex_take.proofs.QuietLines as lines

-- whether LOGOUT has acted
abbrev pub ended_of : ExecState → Bool
ended_of at = at.interpreter.ended

pub no_end : {A : Type 0} (test : Bool) → test ≡ false → test ≡ true → A
no_end test on over = let wrong : true ≡ false = sym over ∙ on in absurd (cc)

-- what follows an act goes on
fault_on : (at : ExecState) (fault : Option Code) → ended_of (left_by at (fault_effects at fault)) ≡ ended_of at
fault_on at None = refl
fault_on at (Some code) = refl

looks_on : (at : ExecState) → ended_of (left_by at (looks_ahead at)) ≡ ended_of at
unfolding looks_ahead
looks_on at = fault_on at (next_fault at.taken (innermost at.files))

closes_on : (at : ExecState) → ended_of (left_by at (closes at)) ≡ ended_of at
unfolding closes
closes_on at = looks_on (closed at)

after_on : (at : ExecState) (answer : Acted) → ended_of (left_by at (after_end at answer)) ≡ ended_of at
unfolding after_end
after_on at (answers.Refused code) = refl
after_on at answers.Ok = closes_on at
after_on at answers.Pending = closes_on at
after_on at answers.Data = closes_on at
after_on at answers.Take = closes_on at
after_on at answers.Logout = closes_on at
after_on at answers.NoMemory = closes_on at
after_on at answers.Failed = closes_on at

completion_on : (at : ExecState) (pending : Pending) → is_pending pending.command ≡ true
    → ended_of (left_by at (completion_effects (unwaiting at) (pending_complete pending))) ≡ ended_of at
completion_on at pending waits =
    let on = unwaiting at in
    let whole = pending_complete pending in
    let effects = subcommand_effects on.interpreter whole in
    let answer = completion_answer on.interpreter whole in
    let takes : takes_subs whole.command ≡ true = complete_stays pending.command waits in
    let over : is_pending whole.command ≡ false = complete_waits_not pending.command waits in
    let acted : ExecState = record on { interpreter = left_by on.interpreter effects } in
    ap ended_of (followed_left on effects (after_end acted answer))
    ∙ after_on acted answer
    ∙ ap (λ (more : Bool). (left_by (record on.interpreter { pending = Some whole })
    (cond more [] (effect_of on.interpreter whole.moment whole.command ∷ []))).ended) over
    ∙ sub_goes on.interpreter whole.moment whole.command takes over

end_on : (at : ExecState) (pending : Option Pending) → Waits pending → ended_of (left_by at (end_effects at pending)) ≡ ended_of at
end_on at None waits = closes_on at
end_on at (Some pending) waits = completion_on at pending waits

settles_on : (at : ExecState) → Waits at.interpreter.pending → ended_of (left_by at (settles at)) ≡ ended_of at
unfolding settles
settles_on at waits = by (is_over (innermost at.files)) where
  by : (over : Bool) → ended_of (left_by at (cond over (end_effects at at.interpreter.pending) (looks_ahead at))) ≡ ended_of at
  by true = end_on at at.interpreter.pending waits
  by false = looks_on at

follows_on : (at : ExecState) (answer : Acted) → Waits at.interpreter.pending → ended_of (left_by at (follows at answer)) ≡ ended_of at
unfolding follows
follows_on at (answers.Refused code) waits = refl
follows_on at answers.Logout waits = refl
follows_on at answers.Ok waits = settles_on at waits
follows_on at answers.Pending waits = settles_on at waits
follows_on at answers.Data waits = settles_on at waits
follows_on at answers.Take waits = settles_on at waits
follows_on at answers.NoMemory waits = settles_on at waits
follows_on at answers.Failed waits = settles_on at waits

-- so an act ends the run where it is that of LOGOUT
acts_logout : (at : ExecState) (moment : ℕ) (command : Command) → Waits at.interpreter.pending → ended_of at ≡ false
    → ended_of (left_by at (acts at moment command)) ≡ true → command ≡ commands.Logout
acts_logout at moment command waits on over =
    let act = lines.act at moment command in
    act_ends at.interpreter moment command on
    (sym (follows_on (lines.acted at moment command) act.answer
    (lines.waits_by at.interpreter moment command act (comes command moment at.interpreter.state) waits)) ∙ over)

take_on : (at : ExecState) (file : Place) → Waits at.interpreter.pending → ended_of (left_by at (take_effects at file)) ≡ ended_of at
take_on at file waits = by (length at.files == MOST_FILES) where
  by : (full : Bool) → ended_of (left_by at (cond full (refuses TakeDepth at ∷ []) (opens at file ∷ settles (opened at file)))) ≡ ended_of at
  by true = refl
  by false = settles_on (opened at file) waits

typing_logout : (at : ExecState) (moment : ℕ) (to : Place) → Waits at.interpreter.pending → ended_of at ≡ false
    → ended_of (left_by at (typing_effects at moment to)) ≡ true → commands.CopyTty to ≡ commands.Logout
typing_logout at moment to waits on = by (length at.files == 0) where
  by : (none : Bool) → ended_of (left_by at (cond none (acts at moment (commands.CopyTty to)) (refuses NotInTake at ∷ []))) ≡ true
      → commands.CopyTty to ≡ commands.Logout
  by true over = acts_logout at moment (commands.CopyTty to) waits on over
  by false over = no_end (ended_of at) on over

commands_logout : (at : ExecState) (moment : ℕ) (command : Command) → Waits at.interpreter.pending → ended_of at ≡ false
    → ended_of (left_by at (command_effects at moment command)) ≡ true → command ≡ commands.Logout
unfolding command_effects
commands_logout at moment (commands.Take file) waits on over = no_end (ended_of at) on (sym (take_on at file waits) ∙ over)
commands_logout at moment (commands.CopyTty to) waits on over = typing_logout at moment to waits on over
commands_logout at moment command waits on over = acts_logout at moment command waits on over

-- a line of subcommands does not end it
pending_on : (at : ExecState) (session : SessionState) (pending : Pending) → is_pending pending.command ≡ true
    → ended_of (left_by at (pending_effects (unwaiting at) session pending)) ≡ ended_of at
pending_on at session pending waits =
    ap (λ (effects : List (Effect ExecState)). ended_of (left_by at effects)) (lines.pending_as at session pending waits)
    ∙ by (is_pending (lines.more at session pending waits).command) refl where
      by : (test : Bool) → is_pending (lines.more at session pending waits).command ≡ test
          → ended_of (left_by at (lines.by_test at session pending waits test)) ≡ ended_of at
      by true is = follows_on (lines.waiting at session pending waits) answers.Pending is
      by false is =
          follows_on (lines.done at session pending waits) (lines.answer at session pending waits) (lines.free at session pending waits is)
          ∙ sub_goes (unwaiting at).interpreter (lines.more at session pending waits).moment (lines.more at session pending waits).command
          (lines.takes at session pending waits) is

-- a line that ends the run, and is where no command waits
module _ (at : ExecState) (session : SessionState) (moment : ℕ) (waits : Waits at.interpreter.pending) (on : ended_of at ≡ false) where
  pub line_logout : ended_of (left_by at (line_effects at session moment)) ≡ true
      → (at.interpreter.pending ≡ None) × (command_at at.interpreter session ≡ commands.Logout)
  unfolding line_effects
  line_logout over = by at.interpreter.pending refl waits over where
    by : (pending : Option Pending) → at.interpreter.pending ≡ pending → Waits pending
        → ended_of (left_by at (line_by at session moment pending)) ≡ true
        → (at.interpreter.pending ≡ None) × (command_at at.interpreter session ≡ commands.Logout)
    by None is none over = (is, commands_logout at moment (command_at at.interpreter session) waits on over)
    by (Some pending) is held over = no_end (ended_of at) on (sym (pending_on at session pending held) ∙ over)

-- so does the line of a file
pub file_line_logout : (at : ExecState) (session : SessionState) (moment : ℕ) → Waits at.interpreter.pending → ended_of at ≡ false
    → ended_of (left_by at (file_line_effects at session moment)) ≡ true → IsLogout at session
file_line_logout at session moment waits on = by session.ending refl where
  by : (ending : Ending) → session.ending ≡ ending → ended_of (left_by (passed at) (ending_effects (passed at) session moment ending)) ≡ true
      → IsLogout at session
  by endings.Done is over =
      let found = line_logout (passed at) session moment waits on over in
      record { done = is; main = found.0; command = found.1 }
  by (endings.Fault fault) is over = no_end (ended_of at) on over
  by (endings.Open place) is over = no_end (ended_of at) on (sym (settles_on (passed at) waits) ∙ over)
