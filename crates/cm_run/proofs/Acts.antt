-- What an application shows of its acts: one that is done, cut, or for which memory runs out.
-- The state of an application is the struct of the code; a field with a Model is its value there. An impl of
-- Application needs no answer where each act has one reply: obeys_done and obeys_cut in using(..), ObeyCause in
-- unfolding(..). obeys_on and obeys_short join lists of acts.
use Rattle.std.proofs.Common.{◌≡◌, true, List, [], ◌∷◌, ◌++◌, Result, Ok, Err, refl, sym, ap, ◌∙◌, subst, append_assoc}
use Rattle.std.proofs.lemmas.List.{append-nil}
use Rattle.cm_io.specs.Contents.{Contents, add, AddsPart}
use Rattle.cm_io.proofs.Additions.{add_append, add_none}
use Rattle.cm_run.specs.Semantics.{Effect}
use Rattle.cm_run.specs.Obey.{Obeys, Stage, after, left_by, replies, stage}
use Rattle.cm_run.specs.declared.stop.Stop.{Stop}
use Rattle.cm_run.specs.declared.stop.Stop.TheVariants as stop

module _ {S : Type 0} where
  -- no act
  pub obeys_nothing : (contents : Contents) (state : S) → Obeys (stage contents state) (stage contents state) [] (Ok tt)
  unfolding Obeys
  obeys_nothing contents state = ap (λ (it : Contents). stage it state) (sym (add_none contents))

  module _ (effect : Effect S) (contents now : Contents) (before next : S) where
    -- one act: its reply is put, and it leaves its state
    pub obeys_done : now ≡ add contents effect.reply → next ≡ effect.state → Obeys (stage contents before) (stage now next) (effect ∷ []) (Ok tt)
    unfolding Obeys
    obeys_done put left =
        ap (λ (it : Contents). stage it next) (put ∙ ap (λ bytes. add contents bytes) (sym (append-nil effect.reply)))
        ∙ ap (λ (it : S). stage (add contents (effect.reply ++ [])) it) left

    -- its reply is cut, and it leaves its state all the same
    pub obeys_cut : AddsPart contents now effect.reply → next ≡ effect.state
        → Obeys (stage contents before) (stage now next) (effect ∷ []) (Err stop.Screen)
    unfolding Obeys
    obeys_cut adds left = record {
      at = record { done = []; effect = effect; rest = []; split = refl };
      screen = subst (λ (it : Contents). AddsPart it now effect.reply) (sym (add_none contents)) adds;
      state = left;
    }

    -- memory runs out for it, and it is not done
    pub obeys_wanting : effect.may_allocate ≡ true → now ≡ contents → next ≡ before
        → Obeys (stage contents before) (stage now next) (effect ∷ []) (Err stop.Memory)
    unfolding Obeys
    obeys_wanting may_allocate put left = record {
      at = record { done = []; effect = effect; rest = []; split = refl };
      may_allocate = may_allocate;
      stands = ap (λ (it : Contents). stage it next) (put ∙ sym (add_none contents)) ∙ ap (λ (it : S). stage (add contents []) it) left;
    }

  -- acts after others
  pub replies_append : (first second : List (Effect S)) → replies (first ++ second) ≡ replies first ++ replies second
  replies_append [] second = refl
  replies_append (effect ∷ first) second =
      ap (λ bytes. effect.reply ++ bytes) (replies_append first second)
      ∙ sym (append_assoc effect.reply (replies first) (replies second))

  pub left_append : (first second : List (Effect S)) (state : S) → left_by state (first ++ second) ≡ left_by (left_by state first) second
  left_append [] second state = refl
  left_append (effect ∷ first) second state = left_append first second effect.state

  after_append : (before : Stage S) (first second : List (Effect S)) → after (after before first) second ≡ after before (first ++ second)
  after_append before first second =
      ap (λ (it : Contents). stage it (left_by (left_by before.state first) second))
      (sym (add_append before.screen (replies first) (replies second))
      ∙ ap (λ bytes. add before.screen bytes) (sym (replies_append first second)))
      ∙ ap (λ (it : S). stage (add before.screen (replies (first ++ second))) it) (sym (left_append first second before.state))

  pub obeys_on : (before middle now : Stage S) (first second : List (Effect S)) (result : Result Unit Stop)
      → Obeys before middle first (Ok tt) → Obeys middle now second result → Obeys before now (first ++ second) result
  unfolding Obeys
  obeys_on before middle now first second (Ok value) done then =
      then ∙ ap (λ (it : Stage S). after it second) done ∙ after_append before first second
  obeys_on before middle now first second (Err stop.Screen) done then = record {
    at = record {
      done = first ++ then.at.done;
      effect = then.at.effect;
      rest = then.at.rest;
      split = append_assoc first then.at.done (then.at.effect ∷ then.at.rest) ∙ ap (λ effects. first ++ effects) then.at.split;
    };
    screen = subst (λ (it : Stage S). AddsPart it.screen now.screen then.at.effect.reply) (after_append before first then.at.done)
        (subst (λ (it : Stage S). AddsPart (after it then.at.done).screen now.screen then.at.effect.reply) done then.screen);
    state = then.state;
  }
  obeys_on before middle now first second (Err stop.Memory) done then = record {
    at = record {
      done = first ++ then.at.done;
      effect = then.at.effect;
      rest = then.at.rest;
      split = append_assoc first then.at.done (then.at.effect ∷ then.at.rest) ∙ ap (λ effects. first ++ effects) then.at.split;
    };
    may_allocate = then.may_allocate;
    stands = then.stands ∙ ap (λ (it : Stage S). after it then.at.done) done ∙ after_append before first then.at.done;
  }
  obeys_on before middle now first second (Err stop.Log) done then = absurd then
  obeys_on before middle now first second (Err stop.Keys) done then = absurd then
  obeys_on before middle now first second (Err stop.Limit) done then = absurd then

  -- acts that are cut short, and others that do not come about
  pub obeys_short : (before now : Stage S) (first second : List (Effect S)) (why : Stop)
      → Obeys before now first (Err why) → Obeys before now (first ++ second) (Err why)
  unfolding Obeys
  obeys_short before now first second stop.Screen short = record {
    at = record {
      done = short.at.done;
      effect = short.at.effect;
      rest = short.at.rest ++ second;
      split = sym (append_assoc short.at.done (short.at.effect ∷ short.at.rest) second) ∙ ap (λ effects. effects ++ second) short.at.split;
    };
    screen = short.screen;
    state = short.state;
  }
  obeys_short before now first second stop.Memory short = record {
    at = record {
      done = short.at.done;
      effect = short.at.effect;
      rest = short.at.rest ++ second;
      split = sym (append_assoc short.at.done (short.at.effect ∷ short.at.rest) second) ∙ ap (λ effects. effects ++ second) short.at.split;
    };
    may_allocate = short.may_allocate;
    stands = short.stands;
  }
  obeys_short before now first second stop.Log short = absurd short
  obeys_short before now first second stop.Keys short = absurd short
  obeys_short before now first second stop.Limit short = absurd short
