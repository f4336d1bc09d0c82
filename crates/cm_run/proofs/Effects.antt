-- Acts that are done in order are the trace of them.
-- What touches only screen and state says its clause for all logs, keys, gets, moments and trials. What acts has Obeys,
-- of which deeds_traces makes a trace.
use Rattle.std.proofs.Common.{◌≡◌, ℕ, Bool, true, false, List, [], ◌∷◌, ◌++◌, refl, ap, sym, subst, ◌∙◌, arith, append_assoc}
use Rattle.std.specs.Prelude.{Result, Ok, Err}
use Rattle.std.specs.List.{flat_map}
use Rattle.std.proofs.lemmas.List.{append-nil}
use Rattle.std.proofs.lemmas.Grind.{flat_map-append}
use Rattle.cm_io.specs.Contents.{Contents, add}
use Rattle.cm_io.proofs.Additions.{add_none, add_append}
use Rattle.cm_run.specs.declared.stop.Stop.{Stop}
use Rattle.cm_run.specs.declared.stop.Stop.TheVariants as stop
use Rattle.cm_run.specs.Event.{Screen, Memory, Act}
use Rattle.cm_run.specs.Observation.{Observation, Performs, observation}
use Rattle.cm_run.specs.Cut.{MemoryCut, ScreenCut, Traces}
use Rattle.cm_run.specs.Semantics.{Effect}
use Rattle.cm_run.specs.Obey.{Obeys, Stage, after, left_by, replies, stage}
use Rattle.cm_run.specs.Trace.{effect_trace, effects_trace, events_if}
use Rattle.cm_run.proofs.Joins.{performs_both, performs_none}

module _ {S : Type 0} (log : Contents) (keys : List ℕ) (gets : ℕ) (moments : List ℕ) (trials : ℕ) where
  -- what is observed where only the screen and the state change
  at : Contents → S → Observation S
  at screen state = observation screen log keys gets moments trials state

  -- an act, and bytes that are shown of it
  one : (may : Bool) (screen : Contents) (state left : S) (bytes : List ℕ)
      → Performs (at screen state) (at (add screen bytes) left) (events_if may (Memory ∷ []) ++ (Act left ∷ Screen bytes ∷ []))
  unfolding Performs at
  one true screen state left bytes = record {
    screen = ap (λ shown. add screen shown) (sym (append-nil bytes));
    log = sym (add_none log);
    keys = refl;
    gets = refl;
    moments = refl;
    trials = omega arith;
    state = refl;
  }
  one false screen state left bytes = record {
    screen = ap (λ shown. add screen shown) (sym (append-nil bytes));
    log = sym (add_none log);
    keys = refl;
    gets = refl;
    moments = refl;
    trials = omega arith;
    state = refl;
  }

  -- acts in order
  all : (effects : List (Effect S)) (screen : Contents) (state : S)
      → Performs (at screen state) (at (add screen (replies effects)) (left_by state effects)) (flat_map effect_trace effects)
  unfolding at
  all [] screen state = subst (λ contents. Performs (at screen state) (at contents state) []) (sym (add_none screen)) (performs_none (at screen state))
  all (effect ∷ effects) screen state =
      subst (λ contents. Performs (at screen state) (at contents (left_by effect.state effects)) (effect_trace effect ++ flat_map effect_trace effects))
      (sym (add_append screen effect.reply (replies effects)))
      (performs_both (at screen state) (at (add screen effect.reply) effect.state)
      (at (add (add screen effect.reply) (replies effects)) (left_by effect.state effects))
      (effect_trace effect) (flat_map effect_trace effects)
      (all effects (add screen effect.reply) effect.state) (one effect.may_allocate screen state effect.state effect.reply))

  -- one of the acts: what comes before it, and after it
  split_at : (done rest effects : List (Effect S)) (effect : Effect S) → done ++ effect ∷ rest ≡ effects
      → flat_map effect_trace done ++ (effect_trace effect ++ flat_map effect_trace rest) ≡ flat_map effect_trace effects
  split_at done rest effects effect split =
      sym (flat_map-append effect_trace done (effect ∷ rest)) ∙ ap (flat_map effect_trace) split

  -- acts that are done in order, or cut short, are the trace of them
  pub effects_traces : (effects : List (Effect S)) (screen now : Contents) (state left : S) (result : Result Unit Stop)
      → Obeys (stage screen state) (stage now left) effects result
      → Traces (observation screen log keys gets moments trials state) (observation now log keys gets moments trials left) (effects_trace effects) result
  unfolding Obeys Traces effects_trace at
  effects_traces effects screen now state left (Ok value) obeys =
      subst (λ (end : Stage S). Performs (at screen state) (at end.screen end.state) (flat_map effect_trace effects)) (sym obeys) (all effects screen state)
  effects_traces effects screen now state left (Err stop.Screen) obeys =
      let place = obeys.at in
      let before = after (stage screen state) place.done in
      let may = events_if place.effect.may_allocate (Memory ∷ []) in
      record {
        done = flat_map effect_trace place.done ++ (may ++ Act place.effect.state ∷ []);
        cut = ScreenCut obeys.screen.part obeys.screen.is_part.rest;
        rest = flat_map effect_trace place.rest;
        cause = refl;
        split = ap (λ bytes. (flat_map effect_trace place.done ++ (may ++ Act place.effect.state ∷ [])) ++ Screen bytes ∷ flat_map effect_trace place.rest) obeys.screen.is_part.joined
            ∙ append_assoc (flat_map effect_trace place.done) (may ++ Act place.effect.state ∷ []) (Screen place.effect.reply ∷ flat_map effect_trace place.rest)
            ∙ ap (λ events. flat_map effect_trace place.done ++ events)
            (append_assoc may (Act place.effect.state ∷ []) (Screen place.effect.reply ∷ flat_map effect_trace place.rest)
            ∙ sym (append_assoc may (Act place.effect.state ∷ Screen place.effect.reply ∷ []) (flat_map effect_trace place.rest)))
            ∙ split_at place.done place.rest effects place.effect place.split;
        stands = subst (λ events. Performs (at screen state) (at now left) events)
            (ap (λ events. flat_map effect_trace place.done ++ events) (sym (append_assoc may (Act place.effect.state ∷ []) (Screen obeys.screen.part ∷ [])))
            ∙ sym (append_assoc (flat_map effect_trace place.done) (may ++ Act place.effect.state ∷ []) (Screen obeys.screen.part ∷ [])))
            (performs_both (at screen state) (at before.screen before.state) (at now left)
            (flat_map effect_trace place.done) (may ++ (Act place.effect.state ∷ Screen obeys.screen.part ∷ []))
            (subst (λ contents. Performs (at before.screen before.state) (at contents left) (may ++ (Act place.effect.state ∷ Screen obeys.screen.part ∷ [])))
            (sym obeys.screen.added)
            (subst (λ end. Performs (at before.screen before.state) (at (add before.screen obeys.screen.part) end) (may ++ (Act place.effect.state ∷ Screen obeys.screen.part ∷ [])))
            (sym obeys.state) (one place.effect.may_allocate before.screen before.state place.effect.state obeys.screen.part)))
            (all place.done screen state));
      }
  effects_traces effects screen now state left (Err stop.Memory) obeys =
      let place = obeys.at in
      record {
        done = flat_map effect_trace place.done;
        cut = MemoryCut;
        rest = Act place.effect.state ∷ Screen place.effect.reply ∷ flat_map effect_trace place.rest;
        cause = refl;
        split = ap (λ may. flat_map effect_trace place.done ++ ((events_if may (Memory ∷ []) ++ (Act place.effect.state ∷ Screen place.effect.reply ∷ [])) ++ flat_map effect_trace place.rest)) (sym obeys.may_allocate)
            ∙ split_at place.done place.rest effects place.effect place.split;
        stands = subst (λ events. Performs (at screen state) (at now left) events) (sym (append-nil (flat_map effect_trace place.done)))
            (subst (λ (end : Stage S). Performs (at screen state) (at end.screen end.state) (flat_map effect_trace place.done)) (sym obeys.stands) (all place.done screen state));
      }
  effects_traces effects screen now state left (Err stop.Log) obeys = absurd obeys
  effects_traces effects screen now state left (Err stop.Keys) obeys = absurd obeys
  effects_traces effects screen now state left (Err stop.Limit) obeys = absurd obeys
