-- What a key of a message that is typed in does.
use Rattle.std.proofs.Common.{◌≡◌, ℕ, Bool, List, [], ◌∷◌, Option, None, Some, Result, Ok, refl, sym, ap, ◌∙◌, subst}
use Rattle.cm_io.specs.Contents.{Contents}
use Rattle.cm_io.proofs.Additions.{add_none}
use Rattle.cm_run.specs.Obey.{Obeys, stage}
use Rattle.cm_run.specs.declared.stop.Stop.{Stop}
use Rattle.cm_run.proofs.Acts.{obeys_done, obeys_on}
use Rattle.ex_store.specs.State.{State}
use Rattle.ex_commands.specs.FileTyping.{bytes_after, echo_of, turn_of}
use Rattle.ex_commands.specs.declared.data.DataTurn.{DataTurn}
use Rattle.ex_commands.specs.declared.data.DataTurn.TheVariants as turns
use Rattle.mm_mail.specs.MailState.{MailState}
use Rattle.mm_mail.specs.Semantics.{raw_by, sent, silent, typed_effects}
use Rattle.mm_mail.specs.declared.message.Message.{Message}

obeys_silent : (contents : Contents) (before next : MailState) → Obeys (stage contents before) (stage contents next) (silent next ∷ []) (Ok tt)
obeys_silent contents before next = obeys_done (silent next) contents contents before next (sym (add_none contents)) refl

module _ (state : State) (held : Option Message) (ended : Bool) (now : MailState) (key : ℕ) (message : Message) (contents : Contents)
    (view : record { state = state; writing = held; ended = ended } ≡ now) (some : held ≡ Some message)
    (bytes : List ℕ) (puts : bytes ≡ bytes_after message.typed key) where
  -- what it does by its outcome
  by_turn : (then : Contents) (next : MailState) (result : Result Unit Stop) (turn : DataTurn) → turn_of (echo_of message.typed key) ≡ turn
      → Obeys (stage contents now) (stage then next) (typed_effects now (record message { typed = bytes }) turn) result
      → Obeys (stage contents now) (stage then next) (raw_by now key now.writing) result
  by_turn then next result turn is obeys =
      subst (λ (it : Option Message). Obeys (stage contents now) (stage then next) (raw_by now key it) result)
      (sym some ∙ ap (λ (it : MailState). it.writing) view)
      (subst (λ (it : DataTurn). Obeys (stage contents now) (stage then next) (typed_effects now (record message { typed = bytes_after message.typed key }) it) result)
      (sym is)
      (subst (λ (it : List ℕ). Obeys (stage contents now) (stage then next) (typed_effects now (record message { typed = it }) turn) result) puts obeys))

  pub more : turn_of (echo_of message.typed key) ≡ turns.More
      → Obeys (stage contents now) (stage contents (record { state = state; writing = Some (record message { typed = bytes }); ended = ended }))
      (raw_by now key now.writing) (Ok tt)
  unfolding typed_effects
  more is =
      subst (λ (it : MailState). Obeys (stage contents now) (stage contents (record it { writing = Some (record message { typed = bytes }) })) (raw_by now key now.writing) (Ok tt))
      (sym view)
      (by_turn contents (record now { writing = Some (record message { typed = bytes }) }) (Ok tt) turns.More is
      (obeys_silent contents now (record now { writing = Some (record message { typed = bytes }) })))

  pub dropped : turn_of (echo_of message.typed key) ≡ turns.Dropped → (rest : Option Message) → rest ≡ None
      → Obeys (stage contents now) (stage contents (record { state = state; writing = rest; ended = ended })) (raw_by now key now.writing) (Ok tt)
  unfolding typed_effects
  dropped is rest as_none =
      subst (λ (it : MailState). Obeys (stage contents now) (stage contents (record it { writing = rest })) (raw_by now key now.writing) (Ok tt)) (sym view)
      (subst (λ (it : Option Message). Obeys (stage contents now) (stage contents (record now { writing = it })) (raw_by now key now.writing) (Ok tt)) (sym as_none)
      (by_turn contents (record now { writing = None }) (Ok tt) turns.Dropped is (obeys_silent contents now (record now { writing = None }))))

  pub sent_out : turn_of (echo_of message.typed key) ≡ turns.Write → (rest : Option Message) → rest ≡ None
      → (then : Contents) (next : MailState) (result : Result Unit Stop)
      → Obeys (stage contents (record { state = state; writing = rest; ended = ended })) (stage then next)
      (sent (record { state = state; writing = rest; ended = ended }) (record message { typed = bytes }) ∷ []) result
      → Obeys (stage contents now) (stage then next) (raw_by now key now.writing) result
  unfolding typed_effects
  sent_out is rest as_none then next result obeys =
      by_turn then next result turns.Write is
      (obeys_on (stage contents now) (stage contents (record now { writing = None })) (stage then next) (silent (record now { writing = None }) ∷ [])
      (sent (record now { writing = None }) (record message { typed = bytes }) ∷ []) result
      (obeys_silent contents now (record now { writing = None }))
      (subst (λ (it : MailState). Obeys (stage contents (record it { writing = None })) (stage then next)
      (sent (record it { writing = None }) (record message { typed = bytes }) ∷ []) result) view
      (subst (λ (it : Option Message). Obeys (stage contents (record { state = state; writing = it; ended = ended })) (stage then next)
      (sent (record { state = state; writing = it; ended = ended }) (record message { typed = bytes }) ∷ []) result) as_none obeys)))
