-- What the EXEC becomes by a command.
use Rattle.std.proofs.Common.{◌≡◌, ℕ, ◌&&◌, nat_le, nat_lt, Bool, true, false, cond, List, [], Option, None, Some, Result, Ok, Err, refl, sym, ap, ◌∙◌, subst}
use Rattle.std.specs.Option.{ForSome}
use Rattle.cm_fields.specs.declared.code.Code.{Code}
use Rattle.cm_fields.specs.declared.code.Code.TheVariants.{CopyRange, NameNeeded}
use Rattle.ex_store.specs.declared.place.Place.{Place}
use Rattle.ex_store.specs.declared.plan.Plan.TheVariants as plans
use Rattle.ex_store.specs.Copying.{lacks_name}
use Rattle.ex_store.specs.Plan.{IsTarget, Planned, planned}
use Rattle.ex_store.specs.State.{State}
use Rattle.ex_commands.specs.Act.{Act, act_of, begins, pends, plays, refuses}
use Rattle.ex_commands.specs.Answer.{may_allocate}
use Rattle.ex_commands.specs.Command.{is_pending}
use Rattle.ex_commands.specs.declared.acted.Acted.{Acted}
use Rattle.ex_commands.specs.declared.acted.Acted.TheVariants as answers
use Rattle.ex_commands.specs.declared.command.Command.{Command}
use Rattle.ex_commands.specs.declared.command.Command.TheVariants as commands
use Rattle.ex_commands.specs.declared.pairs.Origin.{Origin}
use Rattle.ex_commands.specs.declared.pairs.Origin.TheVariants.{Files, Queue}
use Rattle.ex_commands.specs.Commands.Print.{request_of}
use Rattle.ex_store.specs.declared.limits.TheConstants.{COPIES_LIMIT}
use Rattle.ex_commands.proofs.Outcomes.{Comes, comes}
use Rattle.ex_take.specs.Interpreter.{allocates, becomes, typing_to}
use Rattle.ex_take.specs.InterpreterState.{InterpreterState}
use Rattle.ex_take.specs.declared.pending.Pending.{Pending}
use Rattle.ex_take.specs.declared.typing.Typing.{Typing}

-- the state of the file machine stays
pub state_kept : (interpreter : InterpreterState) (moment : ℕ) (command : Command) (answer : Acted) → (becomes interpreter moment command answer).state ≡ interpreter.state
unfolding becomes
state_kept interpreter moment command answers.Ok = refl
state_kept interpreter moment command (answers.Refused code) = refl
state_kept interpreter moment command answers.Pending = refl
state_kept interpreter moment command answers.Data = refl
state_kept interpreter moment command answers.Logout = refl
state_kept interpreter moment command answers.Take = refl
state_kept interpreter moment command answers.NoMemory = refl
state_kept interpreter moment command answers.Failed = refl

-- it becomes nothing else by a command that is done or refused
becomes-done : (interpreter : InterpreterState) (moment : ℕ) (command : Command) (act : Act) → act.answer ≡ answers.Ok → becomes interpreter moment command act.answer ≡ interpreter
unfolding becomes
becomes-done interpreter moment command act done = ap (λ (it : Acted). becomes interpreter moment command it) done

becomes-taken : (interpreter : InterpreterState) (moment : ℕ) (command : Command) (act : Act) → act.answer ≡ answers.Take → becomes interpreter moment command act.answer ≡ interpreter
unfolding becomes
becomes-taken interpreter moment command act taken = ap (λ (it : Acted). becomes interpreter moment command it) taken

becomes-refused : (interpreter : InterpreterState) (moment : ℕ) (command : Command) (act : Act) (code : Code) (state : State) → act ≡ refuses code state
    → becomes interpreter moment command act.answer ≡ interpreter
unfolding becomes
becomes-refused interpreter moment command act code state is = ap (λ (it : Act). becomes interpreter moment command it.answer) is

-- LOGOUT begins no typing
becomes-ended : (interpreter : InterpreterState) (moment : ℕ) (command : Command) (act : Act) → act.answer ≡ answers.Logout
    → (becomes interpreter moment command act.answer).typing ≡ interpreter.typing
unfolding becomes
becomes-ended interpreter moment command act ended = ap (λ (it : Acted). (becomes interpreter moment command it).typing) ended

-- nor does a command that waits for subcommands
becomes-waits : (interpreter : InterpreterState) (moment : ℕ) (command : Command) (act : Act) (state : State) → act ≡ pends state
    → (becomes interpreter moment command act.answer).typing ≡ interpreter.typing
unfolding becomes
becomes-waits interpreter moment command act state is = ap (λ (it : Act). (becomes interpreter moment command it.answer).typing) is

-- nor by one that is neither LOGOUT nor COPY TTY:
pub otherwise : (interpreter : InterpreterState) (moment : ℕ) (command : Command) → is_pending command ≡ false
    → (command ≡ commands.Logout → ⊥)
    → ((to : Place) → command ≡ commands.CopyTty to → ⊥)
    → interpreter ≡ becomes interpreter moment command (act_of command moment interpreter.state).answer
otherwise interpreter moment command acts stays shows = by (act_of command moment interpreter.state) (comes command moment interpreter.state) where
  by : (act : Act) → Comes command interpreter.state act → interpreter ≡ becomes interpreter moment command act.answer
  by act (Comes.done is) = sym (becomes-done interpreter moment command act is)
  by act (Comes.refused code is) = sym (becomes-refused interpreter moment command act code interpreter.state is)
  by act (Comes.waits pending is) = let wrong : true ≡ false = sym pending ∙ acts in absurd (cc)
  by act (Comes.begun to is answer) = absurd (shows to is)
  by act (Comes.taken file is answer) = sym (becomes-taken interpreter moment command act answer)
  by act (Comes.ended is answer) = absurd (stays is)

-- LOGOUT ends the run
pub logout : (state : State) (held : Option Typing) (ended : Bool) (waits : Option Pending) (now : InterpreterState) (moment : ℕ) (command : Command)
    → record { state = state; typing = held; ended = ended; pending = waits } ≡ now → command ≡ commands.Logout
    → record { state = state; typing = held; ended = true; pending = waits } ≡ becomes now moment command (act_of command moment now.state).answer
unfolding becomes act_of
logout state held ended waits now moment command view is =
    ap (λ (it : InterpreterState). record it { ended = true }) view ∙ ap (λ (it : Command). becomes now moment it (act_of it moment now.state).answer) (sym is)

-- COPY TTY: begins the typing of a file that has a name
pub unnamed : (interpreter : InterpreterState) (moment : ℕ) (to : Place) → lacks_name to ≡ true
    → interpreter ≡ becomes interpreter moment (commands.CopyTty to) (begins to interpreter.state).answer
unfolding becomes
unnamed interpreter moment to lacks = rw lacks refl

begun : (interpreter : InterpreterState) (moment : ℕ) (to : Place) → lacks_name to ≡ false
    → record interpreter { typing = Some (typing_to moment to) } ≡ becomes interpreter moment (commands.CopyTty to) (begins to interpreter.state).answer
unfolding becomes
begun interpreter moment to has = rw has refl

pub named : (state : State) (held : Option Typing) (ended : Bool) (waits : Option Pending) (now : InterpreterState) (moment : ℕ) (to place : Place) (typed : List ℕ)
    → record { state = state; typing = held; ended = ended; pending = waits } ≡ now → place ≡ to → typed ≡ [] → lacks_name to ≡ false
    → record { state = state; typing = Some (record { to = place; moment = moment; typed = typed }); ended = ended; pending = waits }
    ≡ becomes now moment (commands.CopyTty to) (begins to now.state).answer
named state held ended waits now moment to place typed view same none has =
    ap (λ (it : InterpreterState). record it { typing = Some (record { to = place; moment = moment; typed = typed }) }) view
    ∙ ap (λ (it : Place). record now { typing = Some (record { to = it; moment = moment; typed = typed }) }) same
    ∙ ap (λ (it : List ℕ). record now { typing = Some (record { to = to; moment = moment; typed = it }) }) none
    ∙ begun now moment to has

pub copies : (interpreter : InterpreterState) (moment : ℕ) (command : Command) (to : Place) → command ≡ commands.CopyTty to
    → becomes interpreter moment (commands.CopyTty to) (begins to interpreter.state).answer ≡ becomes interpreter moment command (act_of command moment interpreter.state).answer
unfolding act_of
copies interpreter moment command to is = ap (λ (it : Command). becomes interpreter moment it (act_of it moment interpreter.state).answer) (sym is)

-- by a command that takes memory it becomes nothing else
plays-same : (interpreter : InterpreterState) (moment : ℕ) (command : Command) (origin : Origin) (made : Result Planned Code)
    → becomes interpreter moment command (plays origin made interpreter.state).answer ≡ interpreter
unfolding becomes
plays-same interpreter moment command origin (Ok made) = refl
plays-same interpreter moment command origin (Err code) = refl

-- nor where it is refused in place of that
prints-same : (interpreter : InterpreterState) (moment : ℕ) (command : Command) (made : Result Planned Code) (test : Bool)
    → becomes interpreter moment command (cond test (plays Queue made interpreter.state) (refuses CopyRange interpreter.state)).answer ≡ interpreter
unfolding becomes
prints-same interpreter moment command made true = plays-same interpreter moment command Queue made
prints-same interpreter moment command made false = refl

pub allocating_same : (interpreter : InterpreterState) (moment : ℕ) (command : Command) → may_allocate command ≡ true
    → becomes interpreter moment command (act_of command moment interpreter.state).answer ≡ interpreter
unfolding act_of
allocating_same interpreter moment (commands.Append from to) lacks = plays-same interpreter moment (commands.Append from to) Files (planned (plans.Append from to) moment interpreter.state)
allocating_same interpreter moment (commands.Build directory retention true) lacks = absurd (cc)
allocating_same interpreter moment (commands.Build directory retention false) lacks =
    plays-same interpreter moment (commands.Build directory retention false) Files (planned (plans.Build directory retention) moment interpreter.state)
allocating_same interpreter moment (commands.Copy from to) lacks = plays-same interpreter moment (commands.Copy from to) Files (planned (plans.Copy from to) moment interpreter.state)
allocating_same interpreter moment (commands.Define name None) lacks = absurd (cc)
allocating_same interpreter moment (commands.Define name (Some directory)) lacks =
    plays-same interpreter moment (commands.Define name (Some directory)) Files (planned (plans.Define name directory) moment interpreter.state)
allocating_same interpreter moment (commands.Print files copies form after job note) lacks =
    prints-same interpreter moment (commands.Print files copies form after job note)
    (planned (plans.Print files (request_of copies form after job note)) moment interpreter.state) (nat_lt 0 copies && nat_le copies COPIES_LIMIT)
allocating_same interpreter moment (commands.Rename from to) lacks = plays-same interpreter moment (commands.Rename from to) Files (planned (plans.Rename from to) moment interpreter.state)
allocating_same interpreter moment command lacks = absurd (cc)

pub may_want : (command : Command) → may_allocate command ≡ true → allocates command ≡ true
may_want (commands.CopyTty to) lacks = refl
may_want (commands.Take file) lacks = refl
may_want command lacks = lacks

-- a file that is to be typed in has a target after the act too
begins-state : (to : Place) (state : State) → (begins to state).state ≡ state
begins-state to state = by (lacks_name to) where
  by : (b : Bool) → (cond b (refuses NameNeeded state) (record { answer = answers.Data; reply = []; state = state })).state ≡ state
  by true = refl
  by false = refl

copies-state : (to : Place) (command : Command) (moment : ℕ) (state : State) → command ≡ commands.CopyTty to → (act_of command moment state).state ≡ state
unfolding act_of
copies-state to command moment state is = ap (λ (it : Command). (act_of it moment state).state) is ∙ begins-state to state

pub target_kept : (interpreter : InterpreterState) (moment : ℕ) (command : Command) → interpreter.typing ≡ None
    → ForSome (becomes interpreter moment command (act_of command moment interpreter.state).answer).typing (λ (it : Typing). IsTarget it.to interpreter.state.directories)
    → ForSome (becomes interpreter moment command (act_of command moment interpreter.state).answer).typing
    (λ (it : Typing). IsTarget it.to (act_of command moment interpreter.state).state.directories)
target_kept interpreter moment command line target = by (comes command moment interpreter.state) where
  -- nothing is typed in
  untyped : (becomes interpreter moment command (act_of command moment interpreter.state).answer).typing ≡ interpreter.typing → (typing : Typing)
      → (becomes interpreter moment command (act_of command moment interpreter.state).answer).typing ≡ Some typing → ⊥
  untyped same typing some = let none : None ≡ Some typing = sym line ∙ sym same ∙ some in cc

  by : Comes command interpreter.state (act_of command moment interpreter.state)
      → ForSome (becomes interpreter moment command (act_of command moment interpreter.state).answer).typing
      (λ (it : Typing). IsTarget it.to (act_of command moment interpreter.state).state.directories)
  by (Comes.done is) = λ typing some. absurd (untyped (ap (λ (it : InterpreterState). it.typing) (becomes-done interpreter moment command (act_of command moment interpreter.state) is)) typing some)
  by (Comes.refused code is) = λ typing some. absurd (untyped (ap (λ (it : InterpreterState). it.typing)
      (becomes-refused interpreter moment command (act_of command moment interpreter.state) code interpreter.state is)) typing some)
  by (Comes.waits pending is) = λ typing some.
      absurd (untyped (becomes-waits interpreter moment command (act_of command moment interpreter.state) interpreter.state is) typing some)
  by (Comes.begun to is answer) = λ typing some. subst (λ (it : State). IsTarget typing.to it.directories)
      (sym (copies-state to command moment interpreter.state is)) (target typing some)
  by (Comes.taken file is answer) = λ typing some. absurd (untyped (ap (λ (it : InterpreterState). it.typing)
      (becomes-taken interpreter moment command (act_of command moment interpreter.state) answer)) typing some)
  by (Comes.ended is answer) = λ typing some. absurd (untyped (becomes-ended interpreter moment command (act_of command moment interpreter.state) answer) typing some)

-- where none waits, none waits after a command that acts
pub free_kept : (interpreter : InterpreterState) (moment : ℕ) (command : Command) → is_pending command ≡ false
    → (becomes interpreter moment command (act_of command moment interpreter.state).answer).pending ≡ interpreter.pending
unfolding becomes
free_kept interpreter moment command acts = by (act_of command moment interpreter.state) (comes command moment interpreter.state) where
  by : (act : Act) → Comes command interpreter.state act → (becomes interpreter moment command act.answer).pending ≡ interpreter.pending
  by act (Comes.done is) = ap (λ (it : Acted). (becomes interpreter moment command it).pending) is
  by act (Comes.refused code is) = ap (λ (it : Act). (becomes interpreter moment command it.answer).pending) is
  by act (Comes.waits pending is) = let wrong : true ≡ false = sym pending ∙ acts in absurd (cc)
  by act (Comes.begun to is answer) = ap (λ (it : Acted). (becomes interpreter moment command it).pending) answer
  by act (Comes.taken file is answer) = ap (λ (it : Acted). (becomes interpreter moment command it).pending) answer
  by act (Comes.ended is answer) = ap (λ (it : Acted). (becomes interpreter moment command it).pending) answer
