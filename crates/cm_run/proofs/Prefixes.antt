-- A run over more keys begins as the run over the first of them.
use Rattle.std.proofs.Common.{◌≡◌, ℕ, zero, suc, cond, List, [], ◌∷◌, ◌++◌, refl, ap, subst, ◌∙◌}
use Rattle.std.specs.Prelude.{Bool, true, false, Option, None, Some}
use Rattle.std.specs.List.{flat_map, fold}
use Rattle.std.proofs.lemmas.List.Sums.{fold-append}
use Rattle.std.proofs.lemmas.Grind.{flat_map-append}
use Rattle.cm_state.specs.SessionState.{SessionState}
use Rattle.cm_state.specs.declared.turn.Turn.{Turn}
use Rattle.cm_state.specs.declared.turn.Turn.TheVariants as turn
use Rattle.cm_run.specs.declared.engine.TheConstants.{FILE_LINES}
use Rattle.cm_run.specs.declared.mode.Mode.{Mode}
use Rattle.cm_run.specs.declared.mode.Mode.TheVariants as mode
use Rattle.cm_run.specs.Event.{Event, Act, Log, Memory, Moment, Screen, event_key, state_after_event, state_after}
use Rattle.cm_run.specs.Semantics.{Effect, Semantics}
use Rattle.cm_run.specs.Progress.{progress}
use Rattle.cm_run.specs.Trace.{RunState, line_trace, effect_trace, effects_trace, events_if, file_trace, is_ended, key_trace, keys_trace, line_keystroke, file_line_trace, next_line, opening, outcome_trace, raw_keystroke, run_trace, starting, step, step_of, keystroke, keystroke_by, keystroke_trace, turn_outcome, unless}

-- a line that begins takes no key
keys_of_opening : (S : Type 0) (it : Mode) → flat_map event_key (opening {S = S} it) ≡ []
keys_of_opening S (mode.Line node prompt takes_moment) = refl
keys_of_opening S mode.Raw = refl
keys_of_opening S mode.Ended = refl

module _ {S : Type 0} where
  -- two lists of events that take no key take none
  no_keys : (first second : List (Event S)) → flat_map event_key first ≡ [] → flat_map event_key second ≡ [] → flat_map event_key (first ++ second) ≡ []
  no_keys first second a b = flat_map-append event_key first second ∙ ap (λ keys. keys ++ flat_map event_key second) a ∙ b

  -- acts take no key
  keys_of_effect : (may : Bool) (state : S) (reply : List ℕ) → flat_map event_key (events_if may (Memory ∷ []) ++ (Act state ∷ Screen reply ∷ [])) ≡ []
  keys_of_effect true state reply = refl
  keys_of_effect false state reply = refl

  keys_of_effects : (effects : List (Effect S)) → flat_map event_key (effects_trace effects) ≡ []
  unfolding effects_trace
  keys_of_effects [] = refl
  keys_of_effects (effect ∷ effects) =
      no_keys (effect_trace effect) (flat_map effect_trace effects) (keys_of_effect effect.may_allocate effect.state effect.reply) (keys_of_effects effects)

  keys_if : (test : Bool) (events : List (Event S)) → flat_map event_key events ≡ [] → flat_map event_key (events_if test events) ≡ []
  keys_if true events none = none
  keys_if false events none = refl

  module _ (m : Semantics S) where
    keys_of_line : (moment : ℕ) (state : S) (line : Option (List ℕ)) → flat_map event_key (file_line_trace m moment state line) ≡ []
    keys_of_line moment state None = refl
    keys_of_line moment state (Some line) = keys_of_effects _

    keys_of_files : (lines moment : ℕ) (state : S) → flat_map event_key (file_trace m lines moment state) ≡ []
    unfolding file_trace
    keys_of_files zero moment state = refl
    keys_of_files (suc lines) moment state =
        let events = file_line_trace m moment state (next_line m state) in
        no_keys events (file_trace m lines moment (state_after state events)) (keys_of_line moment state (next_line m state))
        (keys_of_files lines moment (state_after state events))

    keys_of_turn : (state : S) (session : SessionState) (moment : ℕ) (it : Turn) → flat_map event_key (turn_outcome m state session moment it).events ≡ []
    unfolding turn_outcome line_trace
    keys_of_turn state session moment turn.Confirmed =
        let acts = effects_trace (m.line_effects state session moment) in
        no_keys acts (file_trace m FILE_LINES moment (state_after state acts)) (keys_of_effects (m.line_effects state session moment))
        (keys_of_files FILE_LINES moment (state_after state acts))
    keys_of_turn state session moment (turn.Refused fault) = refl
    keys_of_turn state session moment turn.Abandoned = refl
    keys_of_turn state session moment turn.Edited = refl
    keys_of_turn state session moment turn.Failed = refl

    keys_of_keystroke : (at : RunState S) (key : ℕ) (it : Mode) → flat_map event_key (keystroke_by m at key it).outcome.events ≡ []
    unfolding line_keystroke raw_keystroke
    keys_of_keystroke at key (mode.Line node prompt takes_moment) = keys_of_turn _ _ _ _
    keys_of_keystroke at key mode.Raw = keys_of_effects _
    keys_of_keystroke at key mode.Ended = keys_of_effects _

    -- a key that is taken takes no other
    pub keys_of_key : (logging : Bool) (at : RunState S) (key : ℕ) → flat_map event_key (key_trace m logging at key) ≡ []
    unfolding keystroke_trace outcome_trace
    keys_of_key logging at key =
        let s = keystroke m at key in
        let begins = events_if s.outcome.begins (opening (m.mode_of (state_after at.state s.outcome.events))) in
        no_keys (events_if logging (Log s.log ∷ [])) (events_if s.outcome.takes_moment (Moment ∷ []) ++ (s.outcome.events ++ begins))
        (keys_if logging (Log s.log ∷ []) refl)
        (no_keys (events_if s.outcome.takes_moment (Moment ∷ [])) (s.outcome.events ++ begins) (keys_if s.outcome.takes_moment (Moment ∷ []) refl)
        (no_keys s.outcome.events begins (keys_of_keystroke at key (m.mode_of at.state))
        (keys_if s.outcome.begins (opening (m.mode_of (state_after at.state s.outcome.events))) (keys_of_opening S (m.mode_of (state_after at.state s.outcome.events))))))

    state_of_opening : (test : Bool) (state : S) (it : Mode) → fold state_after_event state (events_if test (opening it)) ≡ state
    state_of_opening true state (mode.Line node prompt takes_moment) = refl
    state_of_opening true state mode.Raw = refl
    state_of_opening true state mode.Ended = refl
    state_of_opening false state it = refl

    state_of_log : (test : Bool) (state : S) (line : List ℕ) → fold state_after_event state (events_if test (Log line ∷ [])) ≡ state
    state_of_log true state line = refl
    state_of_log false state line = refl

    state_of_moment : (test : Bool) (state : S) → fold state_after_event state (events_if test (Moment ∷ [])) ≡ state
    state_of_moment true state = refl
    state_of_moment false state = refl

    -- it leads to the state of its step
    state_of_key : (logging : Bool) (at : RunState S) (key : ℕ) → fold state_after_event at.state (key_trace m logging at key) ≡ (step m at key).state
    unfolding keystroke_trace outcome_trace step_of
    state_of_key logging at key =
        let s = keystroke m at key in
        let left = fold state_after_event at.state s.outcome.events in
        let begins = events_if s.outcome.begins (opening (m.mode_of left)) in
        let log = events_if logging (Log s.log ∷ []) in
        let moment = events_if s.outcome.takes_moment (Moment ∷ []) in
        fold-append state_after_event at.state log (moment ++ (s.outcome.events ++ begins))
        ∙ ap (λ state. fold state_after_event state (moment ++ (s.outcome.events ++ begins))) (state_of_log logging at.state s.log)
        ∙ fold-append state_after_event at.state moment (s.outcome.events ++ begins)
        ∙ ap (λ state. fold state_after_event state (s.outcome.events ++ begins)) (state_of_moment s.outcome.takes_moment at.state)
        ∙ fold-append state_after_event at.state s.outcome.events begins
        ∙ state_of_opening s.outcome.begins left (m.mode_of left)

    -- and keys in turn lead to their progress
    keys_lead : (logging : Bool) (keys : List ℕ) (at : RunState S)
        → fold state_after_event at.state (unless (is_ended (m.mode_of at.state)) (keys_trace m logging at keys)) ≡ (progress m at keys).state
    unfolding progress
    keys_lead logging [] at = by (is_ended (m.mode_of at.state))
      where
        by : (test : Bool) → fold state_after_event at.state (unless test (keys_trace m logging at [])) ≡ at.state
        by true = refl
        by false = refl
    keys_lead logging (key ∷ keys) at = by (is_ended (m.mode_of at.state)) (keys_lead logging keys (step m at key))
      where
        by : (test : Bool)
            → fold state_after_event (step m at key).state (unless (is_ended (m.mode_of (step m at key).state)) (keys_trace m logging (step m at key) keys))
            ≡ (progress m (step m at key) keys).state
            → fold state_after_event at.state (unless test (keys_trace m logging at (key ∷ keys))) ≡ (cond test at (progress m (step m at key) keys)).state
        by true later = refl
        by false later =
            let more = unless (is_ended (m.mode_of (step m at key).state)) (keys_trace m logging (step m at key) keys) in
            fold-append state_after_event at.state (key_trace m logging at key) more
            ∙ ap (λ state. fold state_after_event state more) (state_of_key logging at key)
            ∙ later

    pub run_leads : (logging : Bool) (state : S) (moments keys : List ℕ)
        → state_after state (run_trace m logging state moments keys) ≡ (progress m (starting m state moments) keys).state
    unfolding run_trace
    run_leads logging state moments keys =
        let more = unless (is_ended (m.mode_of state)) (keys_trace m logging (starting m state moments) keys) in
        fold-append state_after_event state (opening (m.mode_of state)) more
        ∙ ap (λ it. fold state_after_event it more) (state_of_opening true state (m.mode_of state))
        ∙ keys_lead logging keys (starting m state moments)

    -- after the keys that are taken the run goes on so, from where they lead
    pub record GoesOn (logging : Bool) (state : S) (events : List (Event S)) (taken rest : List ℕ) : Type 0 where
      pub next : RunState S
      pub going : is_ended (m.mode_of next.state) ≡ false
      pub keys : flat_map event_key events ≡ taken ++ flat_map event_key (keys_trace m logging next rest)
      pub left : fold state_after_event state events ≡ fold state_after_event next.state (keys_trace m logging next rest)

    module _ (logging : Bool) where
      -- a key, and what is left after it
      one_key : (at : RunState S) (key : ℕ) (more rest : List ℕ) → is_ended (m.mode_of (step m at key).state) ≡ false
          → GoesOn logging (step m at key).state (keys_trace m logging (step m at key) (more ++ rest)) more rest
          → GoesOn logging at.state (keys_trace m logging at (key ∷ (more ++ rest))) (key ∷ more) rest
      one_key at key more rest going on =
          let first = key_trace m logging at key in
          let after = keys_trace m logging (step m at key) (more ++ rest) in
          let all : key_trace m logging at key ++ unless (is_ended (m.mode_of (step m at key).state)) after ≡ first ++ after
          = ap (λ test. first ++ unless test after) going in
          record {
            next = on.next;
            going = on.going;
            keys = ap (λ keys. key ∷ keys) (ap (flat_map event_key) all ∙ flat_map-append event_key first after
                ∙ ap (λ keys. keys ++ flat_map event_key after) (keys_of_key logging at key) ∙ on.keys);
            left = ap (fold state_after_event at.state) all ∙ fold-append state_after_event at.state first after
                ∙ ap (λ state. fold state_after_event state after) (state_of_key logging at key) ∙ on.left;
          }

      -- where it leads, if the run has not ended by then
      still : (at : RunState S) (key : ℕ) (more : List ℕ) (test : Bool) → is_ended (m.mode_of (step m at key).state) ≡ test
          → is_ended (m.mode_of (fold state_after_event (step m at key).state (unless test (keys_trace m logging (step m at key) more)))) ≡ false
          → (is_ended (m.mode_of (step m at key).state) ≡ false)
          × (is_ended (m.mode_of (fold state_after_event (step m at key).state (keys_trace m logging (step m at key) more))) ≡ false)
      still at key more true is going = absurd (cc)
      still at key more false is going = (is, going)

      keys_on : (taken rest : List ℕ) (at : RunState S) → is_ended (m.mode_of (fold state_after_event at.state (keys_trace m logging at taken))) ≡ false
          → GoesOn logging at.state (keys_trace m logging at (taken ++ rest)) taken rest
      keys_on [] rest at going = record { next = at; going = going; keys = refl; left = refl }
      keys_on (key ∷ more) rest at going =
          let first = key_trace m logging at key in
          let test = is_ended (m.mode_of (step m at key).state) in
          let leads : fold state_after_event at.state (first ++ unless test (keys_trace m logging (step m at key) more))
          ≡ fold state_after_event (step m at key).state (unless test (keys_trace m logging (step m at key) more))
          = fold-append state_after_event at.state first (unless test (keys_trace m logging (step m at key) more))
          ∙ ap (λ state. fold state_after_event state (unless test (keys_trace m logging (step m at key) more))) (state_of_key logging at key) in
          let there = still at key more test refl (subst (λ state. is_ended (m.mode_of state) ≡ false) leads going) in
          one_key at key more rest there.0 (keys_on more rest (step m at key) there.1)

      begun : (state : S) (moments taken rest : List ℕ) (test : Bool) → is_ended (m.mode_of state) ≡ test
          → is_ended (m.mode_of (fold state_after_event state (opening (m.mode_of state) ++ unless test (keys_trace m logging (starting m state moments) taken)))) ≡ false
          → GoesOn logging state (opening (m.mode_of state) ++ unless test (keys_trace m logging (starting m state moments) (taken ++ rest))) taken rest
      begun state moments taken rest true is going =
          let same : fold state_after_event state (opening (m.mode_of state) ++ []) ≡ state
          = fold-append state_after_event state (opening (m.mode_of state)) [] ∙ state_of_opening true state (m.mode_of state) in
          let wrong : is_ended (m.mode_of state) ≡ false = subst (λ it. is_ended (m.mode_of it) ≡ false) same going in
          absurd (cc)
      begun state moments taken rest false is going =
          let first = opening (m.mode_of state) in
          let start = starting m state moments in
          let leads : (keys : List ℕ) → fold state_after_event state (first ++ keys_trace m logging start keys) ≡ fold state_after_event state (keys_trace m logging start keys)
          = λ keys. fold-append state_after_event state first (keys_trace m logging start keys)
          ∙ ap (λ it. fold state_after_event it (keys_trace m logging start keys)) (state_of_opening true state (m.mode_of state)) in
          let on = keys_on taken rest start (subst (λ it. is_ended (m.mode_of it) ≡ false) (leads taken) going) in
          record {
            next = on.next;
            going = on.going;
            keys = flat_map-append event_key first (keys_trace m logging start (taken ++ rest))
                ∙ ap (λ keys. keys ++ flat_map event_key (keys_trace m logging start (taken ++ rest))) (keys_of_opening S (m.mode_of state)) ∙ on.keys;
            left = leads (taken ++ rest) ∙ on.left;
          }

      -- a run whose first keys do not end it goes on after them
      pub runs_on : (state : S) (moments taken rest : List ℕ) → is_ended (m.mode_of (state_after state (run_trace m logging state moments taken))) ≡ false
          → GoesOn logging state (run_trace m logging state moments (taken ++ rest)) taken rest
      unfolding run_trace
      runs_on state moments taken rest going = begun state moments taken rest (is_ended (m.mode_of state)) refl going
