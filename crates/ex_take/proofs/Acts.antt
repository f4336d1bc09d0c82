-- What a command does, from what the EXEC has become before it is done.
use Rattle.std.proofs.Common.{◌≡◌, ◌⊎◌, ℕ, Bool, false, [], ◌∷◌, Option, None, Result, Ok, sym, ap, ◌∙◌, subst, inl, inr}
use Rattle.std.specs.Option.{ForSome}
use Rattle.cm_io.specs.Contents.{Contents}
use Rattle.cm_run.specs.Obey.{Obeys, stage}
use Rattle.cm_run.specs.declared.stop.Stop.{Stop}
use Rattle.ex_store.specs.Plan.{IsTarget}
use Rattle.ex_store.specs.State.{State}
use Rattle.ex_commands.specs.Act.{Act, act_of}
use Rattle.ex_commands.specs.Answer.{Answers, MayAct, may_allocate}
use Rattle.ex_commands.specs.Command.{is_pending}
use Rattle.ex_commands.specs.declared.acted.Acted.{Acted}
use Rattle.ex_commands.specs.declared.acted.Acted.TheVariants as answers
use Rattle.ex_commands.specs.declared.command.Command.{Command}
use Rattle.ex_take.specs.Interpreter.{allocates, becomes, effect_of}
use Rattle.ex_take.specs.InterpreterState.{InterpreterState}
use Rattle.ex_take.specs.Outcome.{outcome_of}
use Rattle.ex_take.specs.declared.pending.Pending.{Pending}
use Rattle.ex_take.specs.declared.typing.Typing.{Typing}
use Rattle.ex_take.proofs.States.{allocating_same, free_kept, may_want, state_kept, target_kept}
use Rattle.ex_take.proofs.CommandAnswers.{answer_is, answer_obeys}

-- an act leaves its state, or the one that it met
left_by : (contents then : Contents) (act : Act) (lacks : Bool) (start left : State) (answer : Acted) → Answers contents then act lacks start left answer
    → (left ≡ act.state) ⊎ (left ≡ start)
left_by contents then act lacks start left answers.Ok done = inl done.state
left_by contents then act lacks start left (answers.Refused code) done = inl done.state
left_by contents then act lacks start left answers.Pending done = inl done.state
left_by contents then act lacks start left answers.Data done = inl done.state
left_by contents then act lacks start left answers.Logout done = inl done.state
left_by contents then act lacks start left answers.Take done = inl done.state
left_by contents then act lacks start left answers.Failed cut = inl cut.state
left_by contents then act lacks start left answers.NoMemory lacking = inr lacking.state

module _ (state : State) (held : Option Typing) (ended : Bool) (waits : Option Pending) (now : InterpreterState) (moment : ℕ) (command : Command)
    (is : record { state = state; typing = held; ended = ended; pending = waits } ≡ becomes now moment command (act_of command moment now.state).answer) where
  -- the state of the file machine is the one that was met
  state_is : state ≡ now.state
  state_is = ap (λ (it : InterpreterState). it.state) is ∙ state_kept now moment command (act_of command moment now.state).answer

  pub may_act : MayAct command now.state → MayAct command state
  may_act may = subst (λ (it : State). MayAct command it) (sym state_is) may

  pub act_obeys : (contents then : Contents) (left : State) (answer : Acted) (result : Result Unit Stop) → result ≡ outcome_of answer
      → Answers contents then (act_of command moment state) (may_allocate command) state left answer
      → Obeys (stage contents now) (stage then (record { state = left; typing = held; ended = ended; pending = waits })) (effect_of now moment command ∷ []) result
  act_obeys contents then left answer result came acts =
      subst (λ (it : Result Unit Stop). Obeys (stage contents now) (stage then (record { state = left; typing = held; ended = ended; pending = waits })) (effect_of now moment command ∷ []) it)
      (sym came)
      (answer_obeys now (becomes now moment command (act_of command moment now.state).answer) (record { state = left; typing = held; ended = ended; pending = waits })
      (allocates command) (act_of command moment now.state) (may_allocate command) contents then left
      (ap (λ (it : InterpreterState). record it { state = left }) is) (may_want command) (allocating_same now moment command) answer
      (subst (λ (it : State). Answers contents then (act_of command moment it) (may_allocate command) it left answer) state_is acts))

  -- the answer is that of the act, wherever it went to its end
  pub act_answers : (contents then : Contents) (left : State) (answer : Acted)
      → Answers contents then (act_of command moment state) (may_allocate command) state left answer
      → outcome_of answer ≡ Ok tt → answer ≡ (act_of command moment now.state).answer
  act_answers contents then left answer acts outcome =
      answer_is contents then (act_of command moment now.state) (may_allocate command) now.state left answer
      (subst (λ (it : State). Answers contents then (act_of command moment it) (may_allocate command) it left answer) state_is acts) outcome

  -- what is typed in has a target after it
  pub act_target : (contents then : Contents) (left : State) (answer : Acted) → now.typing ≡ None
      → ForSome held (λ (it : Typing). IsTarget it.to state.directories)
      → Answers contents then (act_of command moment state) (may_allocate command) state left answer
      → ForSome held (λ (it : Typing). IsTarget it.to left.directories)
  act_target contents then left answer line target acts =
      by (left_by contents then (act_of command moment state) (may_allocate command) state left answer acts) where
        after : ForSome held (λ (it : Typing). IsTarget it.to (act_of command moment now.state).state.directories)
        after = subst (λ (it : Option Typing). ForSome it (λ (typing : Typing). IsTarget typing.to (act_of command moment now.state).state.directories))
            (sym (ap (λ (it : InterpreterState). it.typing) is))
            (target_kept now moment command line
            (subst (λ (it : State). ForSome (becomes now moment command (act_of command moment now.state).answer).typing (λ (typing : Typing). IsTarget typing.to it.directories))
            (state_kept now moment command (act_of command moment now.state).answer)
            (subst (λ (it : InterpreterState). ForSome it.typing (λ (typing : Typing). IsTarget typing.to it.state.directories)) is target)))

        by : (left ≡ (act_of command moment state).state) ⊎ (left ≡ state) → ForSome held (λ (it : Typing). IsTarget it.to left.directories)
        by (inl acted) = subst (λ (it : State). ForSome held (λ (typing : Typing). IsTarget typing.to it.directories))
            (sym (acted ∙ ap (λ (it : State). (act_of command moment it).state) state_is)) after
        by (inr same) = subst (λ (it : State). ForSome held (λ (typing : Typing). IsTarget typing.to it.directories)) (sym same) target

  -- and none waits after it where none did
  pub act_free : now.pending ≡ None → is_pending command ≡ false → waits ≡ None
  act_free free acts = ap (λ (it : InterpreterState). it.pending) is ∙ free_kept now moment command acts ∙ free
