-- What a key of a file that is typed in does.
use Rattle.std.proofs.Common.{◌≡◌, ℕ, Bool, List, [], ◌∷◌, Option, None, Some, Result, Ok, sym, ap, ◌∙◌, subst}
use Rattle.cm_io.specs.Contents.{Contents}
use Rattle.cm_run.specs.Obey.{Obeys, stage}
use Rattle.cm_run.specs.declared.stop.Stop.{Stop}
use Rattle.ex_store.specs.State.{State}
use Rattle.ex_commands.specs.FileTyping.{bytes_after, echo_of, turn_of}
use Rattle.ex_commands.specs.declared.data.DataTurn.{DataTurn}
use Rattle.ex_commands.specs.declared.data.DataTurn.TheVariants as turns
use Rattle.ex_commands.specs.declared.acted.Acted.{Acted}
use Rattle.ex_take.specs.Interpreter.{raw_answer, raw_by, typed_answer, typed_effects, written}
use Rattle.ex_take.specs.InterpreterState.{InterpreterState}
use Rattle.ex_take.specs.declared.pending.Pending.{Pending}
use Rattle.ex_take.specs.declared.typing.Typing.{Typing}
use Rattle.ex_take.proofs.CommandAnswers.{obeys_after, obeys_silent}

module _ (state : State) (held : Option Typing) (ended : Bool) (waits : Option Pending) (now : InterpreterState) (key : ℕ) (typing : Typing) (contents : Contents)
    (view : record { state = state; typing = held; ended = ended; pending = waits } ≡ now) (some : held ≡ Some typing)
    (bytes : List ℕ) (puts : bytes ≡ bytes_after typing.typed key) where
  -- what it does by its outcome
  by_turn : (then : Contents) (next : InterpreterState) (result : Result Unit Stop) (turn : DataTurn) → turn_of (echo_of typing.typed key) ≡ turn
      → Obeys (stage contents now) (stage then next) (typed_effects now (record typing { typed = bytes }) turn) result
      → Obeys (stage contents now) (stage then next) (raw_by now key now.typing) result
  by_turn then next result turn is obeys =
      subst (λ (it : Option Typing). Obeys (stage contents now) (stage then next) (raw_by now key it) result)
      (sym some ∙ ap (λ (it : InterpreterState). it.typing) view)
      (subst (λ (it : DataTurn). Obeys (stage contents now) (stage then next) (typed_effects now (record typing { typed = bytes_after typing.typed key }) it) result)
      (sym is)
      (subst (λ (it : List ℕ). Obeys (stage contents now) (stage then next) (typed_effects now (record typing { typed = it }) turn) result) puts obeys))

  pub more : turn_of (echo_of typing.typed key) ≡ turns.More
      → Obeys (stage contents now) (stage contents (record { state = state; typing = Some (record typing { typed = bytes }); ended = ended; pending = waits }))
      (raw_by now key now.typing) (Ok tt)
  unfolding typed_effects
  more is =
      subst (λ (it : InterpreterState). Obeys (stage contents now) (stage contents (record it { typing = Some (record typing { typed = bytes }) })) (raw_by now key now.typing) (Ok tt))
      (sym view)
      (by_turn contents (record now { typing = Some (record typing { typed = bytes }) }) (Ok tt) turns.More is
      (obeys_silent contents now (record now { typing = Some (record typing { typed = bytes }) })))

  pub dropped : turn_of (echo_of typing.typed key) ≡ turns.Dropped → (rest : Option Typing) → rest ≡ None
      → Obeys (stage contents now) (stage contents (record { state = state; typing = rest; ended = ended; pending = waits })) (raw_by now key now.typing) (Ok tt)
  unfolding typed_effects
  dropped is rest as_none =
      subst (λ (it : InterpreterState). Obeys (stage contents now) (stage contents (record it { typing = rest })) (raw_by now key now.typing) (Ok tt)) (sym view)
      (subst (λ (it : Option Typing). Obeys (stage contents now) (stage contents (record now { typing = it })) (raw_by now key now.typing) (Ok tt)) (sym as_none)
      (by_turn contents (record now { typing = None }) (Ok tt) turns.Dropped is (obeys_silent contents now (record now { typing = None }))))

  pub written_out : turn_of (echo_of typing.typed key) ≡ turns.Write → (rest : Option Typing) → rest ≡ None
      → (then : Contents) (next : InterpreterState) (result : Result Unit Stop)
      → Obeys (stage contents (record { state = state; typing = rest; ended = ended; pending = waits })) (stage then next)
      (written (record { state = state; typing = rest; ended = ended; pending = waits }) (record typing { typed = bytes }) ∷ []) result
      → Obeys (stage contents now) (stage then next) (raw_by now key now.typing) result
  unfolding typed_effects
  written_out is rest as_none then next result obeys =
      by_turn then next result turns.Write is
      (obeys_after contents then now (record now { typing = None }) next (written (record now { typing = None }) (record typing { typed = bytes }) ∷ []) result
      (subst (λ (it : InterpreterState). Obeys (stage contents (record it { typing = None })) (stage then next)
      (written (record it { typing = None }) (record typing { typed = bytes }) ∷ []) result) view
      (subst (λ (it : Option Typing). Obeys (stage contents (record { state = state; typing = it; ended = ended; pending = waits })) (stage then next)
      (written (record { state = state; typing = it; ended = ended; pending = waits }) (record typing { typed = bytes }) ∷ []) result) as_none obeys)))

  -- and what is answered
  pub raw_answers : (turn : DataTurn) → turn_of (echo_of typing.typed key) ≡ turn → (answer : Acted)
      → answer ≡ typed_answer now (record typing { typed = bytes }) turn → answer ≡ raw_answer now key now.typing
  raw_answers turn is answer came =
      subst (λ (it : Option Typing). answer ≡ raw_answer now key it) (sym some ∙ ap (λ (it : InterpreterState). it.typing) view)
      (subst (λ (it : DataTurn). answer ≡ typed_answer now (record typing { typed = bytes_after typing.typed key }) it) (sym is)
      (subst (λ (it : List ℕ). answer ≡ typed_answer now (record typing { typed = it }) turn) puts came))
