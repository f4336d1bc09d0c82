-- What a command answers, as the engine is told it.
use Rattle.std.proofs.Common.{◌≡◌, ℕ, Bool, true, List, [], ◌∷◌, Option, Result, Ok, Err, refl, sym, ap, ◌∙◌, subst}
use Rattle.cm_io.specs.Contents.{Contents}
use Rattle.cm_io.proofs.Additions.{add_none}
use Rattle.cm_run.specs.Cause.{ObeyCause}
use Rattle.cm_run.specs.Semantics.{Effect}
use Rattle.cm_run.specs.Obey.{Obeys, stage}
use Rattle.cm_run.proofs.Acts.{obeys_cut, obeys_done, obeys_wanting}
use Rattle.cm_run.specs.declared.stop.Stop.{Stop}
use Rattle.cm_run.specs.declared.stop.Stop.TheVariants as stop
use Rattle.ex_store.specs.State.{State}
use Rattle.ex_commands.specs.Act.{Act, writes}
use Rattle.ex_commands.specs.Answer.{ActCause, Answers}
use Rattle.ex_commands.specs.declared.acted.Acted.{Acted}
use Rattle.ex_commands.specs.declared.acted.Acted.TheVariants as answers
use Rattle.ex_take.specs.Interpreter.{silent, written}
use Rattle.ex_take.specs.Outcome.{outcome_of}
use Rattle.ex_take.specs.InterpreterState.{InterpreterState}
use Rattle.ex_take.specs.declared.pending.Pending.{Pending}
use Rattle.ex_take.specs.declared.typing.Typing.{Typing}

-- a silent act alone
pub obeys_silent : (contents : Contents) (before next : InterpreterState) → Obeys (stage contents before) (stage contents next) (silent next ∷ []) (Ok tt)
obeys_silent contents before next = obeys_done (silent next) contents contents before next (sym (add_none contents)) refl

-- acts after a silent one
pub obeys_after : (contents now : Contents) (before middle next : InterpreterState) (effects : List (Effect InterpreterState)) (result : Result Unit Stop)
    → Obeys (stage contents middle) (stage now next) effects result → Obeys (stage contents before) (stage now next) (silent middle ∷ effects) result
unfolding Obeys
obeys_after contents now before middle next effects (Ok value) obeys = obeys
obeys_after contents now before middle next effects (Err stop.Screen) obeys = record {
  at = record {
    done = silent middle ∷ obeys.at.done;
    effect = obeys.at.effect;
    rest = obeys.at.rest;
    split = ap (λ (it : List (Effect InterpreterState)). silent middle ∷ it) obeys.at.split;
  };
  screen = obeys.screen;
  state = obeys.state;
}
obeys_after contents now before middle next effects (Err stop.Memory) obeys = record {
  at = record {
    done = silent middle ∷ obeys.at.done;
    effect = obeys.at.effect;
    rest = obeys.at.rest;
    split = ap (λ (it : List (Effect InterpreterState)). silent middle ∷ it) obeys.at.split;
  };
  may_allocate = obeys.may_allocate;
  stands = obeys.stands;
}
obeys_after contents now before middle next effects (Err stop.Log) obeys = absurd obeys
obeys_after contents now before middle next effects (Err stop.Keys) obeys = absurd obeys
obeys_after contents now before middle next effects (Err stop.Limit) obeys = absurd obeys

-- an act that answered so is done, cut, or wanting
module _ (interpreter becoming next : InterpreterState) (allocates : Bool) (act : Act) (lacks : Bool) (contents now : Contents) (left : State)
    (leaves : next ≡ record becoming { state = left }) (may_want : lacks ≡ true → allocates ≡ true) (same : lacks ≡ true → becoming ≡ interpreter) where
  abbrev effect : Effect InterpreterState
  effect = record { may_allocate = allocates; state = record becoming { state = act.state }; reply = act.reply }

  abbrev leaves_act : left ≡ act.state → next ≡ effect.state
  leaves_act is = leaves ∙ ap (λ (it : State). record becoming { state = it }) is

  pub answer_obeys : (answer : Acted) → Answers contents now act lacks interpreter.state left answer
      → Obeys (stage contents interpreter) (stage now next) (effect ∷ []) (outcome_of answer)
  answer_obeys answers.Ok done = obeys_done effect contents now interpreter next done.contents (leaves_act done.state)
  answer_obeys (answers.Refused code) done = obeys_done effect contents now interpreter next done.contents (leaves_act done.state)
  answer_obeys answers.Pending done = obeys_done effect contents now interpreter next done.contents (leaves_act done.state)
  answer_obeys answers.Take done = obeys_done effect contents now interpreter next done.contents (leaves_act done.state)
  answer_obeys answers.Data done = obeys_done effect contents now interpreter next done.contents (leaves_act done.state)
  answer_obeys answers.Logout done = obeys_done effect contents now interpreter next done.contents (leaves_act done.state)
  answer_obeys answers.Failed cut = obeys_cut effect contents now interpreter next cut.contents (leaves_act cut.state)
  answer_obeys answers.NoMemory lacking = obeys_wanting effect contents now interpreter next (may_want lacking.may_allocate) lacking.contents
      (leaves ∙ ap (λ (it : InterpreterState). record it { state = left }) (same lacking.may_allocate)
      ∙ ap (λ (it : State). record interpreter { state = it }) lacking.state)

-- an answer that went to its end is that of the act
pub answer_is : (contents now : Contents) (act : Act) (lacks : Bool) (start left : State) (answer : Acted)
    → Answers contents now act lacks start left answer → outcome_of answer ≡ Ok tt → answer ≡ act.answer
answer_is contents now act lacks start left answers.Ok done outcome = sym done.answer_is
answer_is contents now act lacks start left (answers.Refused code) done outcome = sym done.answer_is
answer_is contents now act lacks start left answers.Pending done outcome = sym done.answer_is
answer_is contents now act lacks start left answers.Data done outcome = sym done.answer_is
answer_is contents now act lacks start left answers.Take done outcome = sym done.answer_is
answer_is contents now act lacks start left answers.Logout done outcome = sym done.answer_is
answer_is contents now act lacks start left answers.Failed cut outcome = absurd (cc)
answer_is contents now act lacks start left answers.NoMemory lacking outcome = absurd (cc)

-- by the counts
pub answer_cause : (f g : ℕ) (answer : Acted) → ActCause f g answer → ObeyCause f g (outcome_of answer)
unfolding ObeyCause
answer_cause f g answers.Ok cause = cause
answer_cause f g (answers.Refused code) cause = cause
answer_cause f g answers.Pending cause = cause
answer_cause f g answers.Data cause = cause
answer_cause f g answers.Take cause = cause
answer_cause f g answers.Logout cause = cause
answer_cause f g answers.NoMemory cause = cause
answer_cause f g answers.Failed cause = cause

-- what was typed in is written
pub write_obeys : (state : State) (held : Option Typing) (ended : Bool) (waits : Option Pending) (now : InterpreterState) (typing : Typing) (contents then : Contents) (left : State)
    (answer : Acted) (result : Result Unit Stop) → record { state = state; typing = held; ended = ended; pending = waits } ≡ now → result ≡ outcome_of answer
    → Answers contents then (writes typing.to typing.typed typing.moment state) true state left answer
    → Obeys (stage contents now) (stage then (record { state = left; typing = held; ended = ended; pending = waits })) (written now typing ∷ []) result
write_obeys state held ended waits now typing contents then left answer result view is acts =
    subst (λ (it : Result Unit Stop). Obeys (stage contents now) (stage then (record { state = left; typing = held; ended = ended; pending = waits })) (written now typing ∷ []) it)
    (sym is)
    (subst (λ (it : InterpreterState). Obeys (stage contents it) (stage then (record { state = left; typing = held; ended = ended; pending = waits })) (written it typing ∷ []) (outcome_of answer))
    view
    (answer_obeys (record { state = state; typing = held; ended = ended; pending = waits }) (record { state = state; typing = held; ended = ended; pending = waits })
    (record { state = left; typing = held; ended = ended; pending = waits }) true (writes typing.to typing.typed typing.moment state) true contents then left
    refl (λ lacks. refl) (λ lacks. refl) answer acts))

pub write_answers : (state : State) (held : Option Typing) (ended : Bool) (waits : Option Pending) (now : InterpreterState) (typing : Typing) (contents then : Contents) (left : State)
    (answer : Acted) → record { state = state; typing = held; ended = ended; pending = waits } ≡ now
    → Answers contents then (writes typing.to typing.typed typing.moment state) true state left answer
    → outcome_of answer ≡ Ok tt → answer ≡ (writes typing.to typing.typed typing.moment now.state).answer
write_answers state held ended waits now typing contents then left answer view acts outcome =
    answer_is contents then (writes typing.to typing.typed typing.moment state) true state left answer acts outcome
    ∙ ap (λ (it : InterpreterState). (writes typing.to typing.typed typing.moment it.state).answer) view
