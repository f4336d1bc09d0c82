-- Where a run stops between two keys: at a key that is asked for, taken or not there.
-- Such an event is in no key's trace (turns), so what is done by then is the run over the keys that were taken, up to its
-- last question. Trials and state are told of any start, so that the induction needs no other lemma of a key.
use Rattle.std.proofs.Common.{◌≡◌, ℕ, ◌+◌, zero, suc, Bool, true, false, ◌||◌, List, [], ◌∷◌, ◌++◌, refl, ap, sym, subst, ◌∙◌}
use Rattle.std.specs.Prelude.{Option, None, Some}
use Rattle.std.specs.List.{flat_map, fold, list_any, sum_by}
use Rattle.std.proofs.lemmas.List.Folds.{list_any-append}
use Rattle.std.proofs.lemmas.List.Sums.{fold-append, sum_by-append}
use Rattle.std.proofs.lemmas.Grind.{flat_map-append}
use Rattle.cm_state.specs.SessionState.{SessionState}
use Rattle.cm_state.specs.declared.turn.Turn.{Turn}
use Rattle.cm_state.specs.declared.turn.Turn.TheVariants as turn
use Rattle.cm_run.specs.declared.engine.TheConstants.{FILE_LINES}
use Rattle.cm_run.specs.declared.mode.Mode.{Mode}
use Rattle.cm_run.specs.declared.mode.Mode.TheVariants as mode
use Rattle.cm_run.specs.Event.{Event, Act, Ask, End, Key, Log, Memory, Moment, Screen, event_key, event_trials, keys_of, state_after, state_after_event, trials_of}
use Rattle.cm_run.specs.Progress.{progress}
use Rattle.cm_run.specs.Semantics.{Effect, Semantics}
use Rattle.cm_run.specs.Trace.{RunState, effect_trace, effects_trace, events_if, file_line_trace, file_trace, is_ended, key_trace, keys_trace, keystroke, keystroke_by, keystroke_trace, line_keystroke, line_trace, next_line, opening, outcome_trace, raw_keystroke, run_trace, starting, step, turn_outcome, unless}
use Rattle.cm_run.proofs.Prefixes.{keys_of_key}
use Rattle.cm_run.proofs.Progress.{progress_key}

neither : (a b : Bool) → a ≡ false → b ≡ false → (a || b) ≡ false
neither true b none other = absurd (cc)
neither false b none other = other

module _ {S : Type 0} where
  -- a key is asked for, is taken, or none is left
  abbrev pub is_turn : Event S → Bool
  is_turn Ask = true
  is_turn (Key key) = true
  is_turn End = true
  is_turn event = false

  abbrev turns : List (Event S) → Bool
  turns events = list_any is_turn events

none_opens : (S : Type 0) (it : Mode) → turns (opening {S = S} it) ≡ false
none_opens S (mode.Line node prompt takes_moment) = refl
none_opens S mode.Raw = refl
none_opens S mode.Ended = refl

keys_of_opening : (S : Type 0) (it : Mode) → keys_of (opening {S = S} it) ≡ []
keys_of_opening S (mode.Line node prompt takes_moment) = refl
keys_of_opening S mode.Raw = refl
keys_of_opening S mode.Ended = refl

module _ {S : Type 0} where
  none_both : (first more : List (Event S)) → turns first ≡ false → turns more ≡ false → turns (first ++ more) ≡ false
  none_both first more a b = list_any-append is_turn first more ∙ neither (turns first) (turns more) a b

  none_if : (test : Bool) (events : List (Event S)) → turns events ≡ false → turns (events_if test events) ≡ false
  none_if true events none = none
  none_if false events none = refl

  none_effect : (may : Bool) (state : S) (reply : List ℕ) → turns (events_if may (Memory ∷ []) ++ (Act state ∷ Screen reply ∷ [])) ≡ false
  none_effect true state reply = refl
  none_effect false state reply = refl

  none_effects : (effects : List (Effect S)) → turns (effects_trace effects) ≡ false
  unfolding effects_trace
  none_effects [] = refl
  none_effects (effect ∷ effects) =
      none_both (effect_trace effect) (flat_map effect_trace effects) (none_effect effect.may_allocate effect.state effect.reply) (none_effects effects)

  -- what is at an event of this kind, after events of which none is of it
  pub record Behind (front more done rest : List (Event S)) (event : Event S) : Type 0 where
    pub between : List (Event S)
    pub joined : done ≡ front ++ between
    pub split : between ++ event ∷ rest ≡ more

  behind : (front more done rest : List (Event S)) (event : Event S) → is_turn event ≡ true → turns front ≡ false
      → done ++ event ∷ rest ≡ front ++ more → Behind front more done rest event
  behind [] more done rest event is none same = record { between = done; joined = refl; split = same }
  behind (one ∷ front) more [] rest event is none same = by (is_turn one) refl none where
    head : event ≡ one
    head = cc

    by : (test : Bool) → is_turn one ≡ test → (test || turns front) ≡ false → Behind (one ∷ front) more [] rest event
    by true of none = absurd (cc)
    by false of none = let wrong : true ≡ false = sym is ∙ ap (λ (it : Event S). is_turn it) head ∙ of in absurd (cc)
  behind (one ∷ front) more (other ∷ done) rest event is none same =
      let head : other ≡ one = cc in
      let tail : done ++ event ∷ rest ≡ front ++ more = cc in
      let later = behind front more done rest event is (rest_of (is_turn one) (turns front) none) tail in
      record {
        between = later.between;
        joined = ap (λ (it : Event S). it ∷ done) head ∙ ap (λ events. one ∷ events) later.joined;
        split = later.split;
      }
    where
      rest_of : (a b : Bool) → (a || b) ≡ false → b ≡ false
      rest_of true b none = absurd (cc)
      rest_of false b none = none

  module _ (m : Semantics S) where
    none_line : (moment : ℕ) (state : S) (line : Option (List ℕ)) → turns (file_line_trace m moment state line) ≡ false
    none_line moment state None = refl
    none_line moment state (Some line) = none_effects _

    none_files : (lines moment : ℕ) (state : S) → turns (file_trace m lines moment state) ≡ false
    unfolding file_trace
    none_files zero moment state = refl
    none_files (suc lines) moment state =
        let events = file_line_trace m moment state (next_line m state) in
        none_both events (file_trace m lines moment (state_after state events)) (none_line moment state (next_line m state))
        (none_files lines moment (state_after state events))

    none_turn : (state : S) (session : SessionState) (moment : ℕ) (it : Turn) → turns (turn_outcome m state session moment it).events ≡ false
    unfolding turn_outcome line_trace
    none_turn state session moment turn.Confirmed =
        let acts = effects_trace (m.line_effects state session moment) in
        none_both acts (file_trace m FILE_LINES moment (state_after state acts)) (none_effects (m.line_effects state session moment))
        (none_files FILE_LINES moment (state_after state acts))
    none_turn state session moment (turn.Refused fault) = refl
    none_turn state session moment turn.Abandoned = refl
    none_turn state session moment turn.Edited = refl
    none_turn state session moment turn.Failed = refl

    none_keystroke : (at : RunState S) (key : ℕ) (it : Mode) → turns (keystroke_by m at key it).outcome.events ≡ false
    unfolding line_keystroke raw_keystroke
    none_keystroke at key (mode.Line node prompt takes_moment) = none_turn _ _ _ _
    none_keystroke at key mode.Raw = none_effects _
    none_keystroke at key mode.Ended = none_effects _

    -- what a key does is no such event
    none_key : (logging : Bool) (at : RunState S) (key : ℕ) → turns (key_trace m logging at key) ≡ false
    unfolding keystroke_trace outcome_trace
    none_key logging at key =
        let s = keystroke m at key in
        let begins = events_if s.outcome.begins (opening (m.mode_of (state_after at.state s.outcome.events))) in
        none_both (events_if logging (Log s.log ∷ [])) (events_if s.outcome.takes_moment (Moment ∷ []) ++ (s.outcome.events ++ begins))
        (none_if logging (Log s.log ∷ []) refl)
        (none_both (events_if s.outcome.takes_moment (Moment ∷ [])) (s.outcome.events ++ begins) (none_if s.outcome.takes_moment (Moment ∷ []) refl)
        (none_both s.outcome.events begins (none_keystroke at key (m.mode_of at.state))
        (none_if s.outcome.begins (opening (m.mode_of (state_after at.state s.outcome.events))) (none_opens S (m.mode_of (state_after at.state s.outcome.events))))))

  -- what is done costs what these events do, and leaves what they leave
  pub record DoneAs (done events : List (Event S)) : Type 0 where
    pub trials : trials_of done ≡ trials_of events
    pub state : (from : S) → state_after from done ≡ state_after from events

  -- also after the same events before
  done_after : (front done events : List (Event S)) → DoneAs done events → DoneAs (front ++ done) (front ++ events)
  done_after front done events same = record {
    trials = sum_by-append event_trials front done ∙ ap (λ n. sum_by event_trials front + n) same.trials
        ∙ sym (sum_by-append event_trials front events);
    state = λ from. fold-append state_after_event from front done ∙ same.state (fold state_after_event from front)
        ∙ sym (fold-append state_after_event from front events);
  }

  no_event : (done rest : List (Event S)) (event : Event S) → done ++ event ∷ rest ≡ [] → ⊥
  no_event [] rest event none = cc
  no_event (one ∷ done) rest event none = cc

  module _ (m : Semantics S) (logging : Bool) where
    -- the keys that were taken have not ended the run, and what is done is what the run over them does
    pub record Halts (at : RunState S) (done : List (Event S)) (events : List ℕ → List (Event S)) : Type 0 where
      pub alike : DoneAs done (events (keys_of done))
      pub going : is_ended (m.mode_of (progress m at (keys_of done)).state) ≡ false

    -- before any key
    none_done : (at : RunState S) (keys : List ℕ) → is_ended (m.mode_of at.state) ≡ false → Halts at [] (keys_trace m logging at)
    unfolding progress
    none_done at keys going = record { alike = record { trials = refl; state = λ from. refl }; going = going }

    one_asked : (at : RunState S) (event : Event S) → event ≡ Ask → is_ended (m.mode_of at.state) ≡ false
        → Halts at (event ∷ []) (keys_trace m logging at)
    unfolding progress
    one_asked at event is going =
        subst (λ (it : Event S). Halts at (it ∷ []) (keys_trace m logging at)) (sym is)
        (record { alike = record { trials = refl; state = λ from. refl }; going = going })

    -- what is at such an event in the trace of these keys
    abbrev Stops : RunState S → List ℕ → Event S → Type 0
    Stops at keys event = (done rest : List (Event S)) → is_ended (m.mode_of at.state) ≡ false
        → done ++ event ∷ rest ≡ keys_trace m logging at keys → Halts at done (keys_trace m logging at)

    module _ (at : RunState S) (key : ℕ) (keys : List ℕ) (event : Event S) (going : is_ended (m.mode_of at.state) ≡ false) where
      abbrev next : RunState S
      next = step m at key

      abbrev first : List (Event S)
      first = key_trace m logging at key

      -- after a key and what it does, the rest
      key_done : (between : List (Event S)) → is_ended (m.mode_of next.state) ≡ false → Halts next between (keys_trace m logging next)
          → Halts at (Ask ∷ Key key ∷ (first ++ between)) (keys_trace m logging at)
      key_done between is later =
          let taken : key ∷ keys_of (first ++ between) ≡ key ∷ keys_of between =
          ap (λ more. key ∷ more) (flat_map-append event_key first between
          ∙ ap (λ more. more ++ flat_map event_key between) (keys_of_key m logging at key)) in
          let rest : DoneAs between (unless (is_ended (m.mode_of next.state)) (keys_trace m logging next (keys_of between))) =
          subst (λ test. DoneAs between (unless test (keys_trace m logging next (keys_of between)))) (sym is) later.alike in
          let whole : DoneAs (Ask ∷ Key key ∷ (first ++ between)) (keys_trace m logging at (key ∷ keys_of between)) =
          done_after (Ask ∷ Key key ∷ []) (first ++ between)
          (first ++ unless (is_ended (m.mode_of next.state)) (keys_trace m logging next (keys_of between)))
          (done_after first between (unless (is_ended (m.mode_of next.state)) (keys_trace m logging next (keys_of between))) rest) in
          let on : is_ended (m.mode_of (progress m at (key ∷ keys_of between)).state) ≡ false =
          subst (λ (it : RunState S). is_ended (m.mode_of it.state) ≡ false) (sym (progress_key m at key (keys_of between) going)) later.going in
          record {
            alike = subst (λ more. DoneAs (Ask ∷ Key key ∷ (first ++ between)) (keys_trace m logging at more)) (sym taken) whole;
            going = subst (λ more. is_ended (m.mode_of (progress m at more).state) ≡ false) (sym taken) on;
          }

      key_and_rest : (done rest : List (Event S)) → is_turn event ≡ true → Stops next keys event
          → done ++ event ∷ rest ≡ first ++ unless (is_ended (m.mode_of next.state)) (keys_trace m logging next keys)
          → Halts at (Ask ∷ Key key ∷ done) (keys_trace m logging at)
      key_and_rest done rest is again same =
          subst (λ (events : List (Event S)). Halts at (Ask ∷ Key key ∷ events) (keys_trace m logging at)) (sym found.joined)
          (by (is_ended (m.mode_of next.state)) refl found.split)
        where
          found : Behind first (unless (is_ended (m.mode_of next.state)) (keys_trace m logging next keys)) done rest event
          found =
              behind first (unless (is_ended (m.mode_of next.state)) (keys_trace m logging next keys)) done rest event is
              (none_key m logging at key) same

          by : (ended : Bool) → is_ended (m.mode_of next.state) ≡ ended
              → found.between ++ event ∷ rest ≡ unless ended (keys_trace m logging next keys)
              → Halts at (Ask ∷ Key key ∷ (first ++ found.between)) (keys_trace m logging at)
          by true over none = absurd (no_event found.between rest event none)
          by false on split = key_done found.between on (again found.between rest on split)

    stops : (keys : List ℕ) (at : RunState S) (event : Event S) → is_turn event ≡ true → Stops at keys event
    stops keys at event is [] rest going same = none_done at keys going
    stops [] at event is (a ∷ []) rest going same = let head : a ≡ Ask = cc in one_asked at a head going
    stops [] at event is (a ∷ b ∷ done) rest going same =
        let tail : done ++ event ∷ rest ≡ [] = cc in absurd (no_event done rest event tail)
    stops (key ∷ keys) at event is (a ∷ []) rest going same = let head : a ≡ Ask = cc in one_asked at a head going
    stops (key ∷ keys) at event is (a ∷ b ∷ done) rest going same =
        let head : a ≡ Ask = cc in
        let second : b ≡ Key key = cc in
        let tail : done ++ event ∷ rest
        ≡ key_trace m logging at key ++ unless (is_ended (m.mode_of (step m at key).state)) (keys_trace m logging (step m at key) keys) = cc in
        subst (λ (it : Event S). Halts at (it ∷ b ∷ done) (keys_trace m logging at)) (sym head)
        (subst (λ (it : Event S). Halts at (Ask ∷ it ∷ done) (keys_trace m logging at)) (sym second)
        (key_and_rest at key keys event going done rest is (stops keys (step m at key) event is) tail))

    begun : (state : S) (moments keys : List ℕ) (done rest : List (Event S)) (event : Event S) → is_turn event ≡ true
        → (test : Bool) → is_ended (m.mode_of state) ≡ test
        → done ++ event ∷ rest ≡ opening (m.mode_of state) ++ unless test (keys_trace m logging (starting m state moments) keys)
        → Halts (starting m state moments) done
        (λ taken. opening (m.mode_of state) ++ unless test (keys_trace m logging (starting m state moments) taken))
    begun state moments keys done rest event is true over same =
        let found = behind (opening (m.mode_of state)) [] done rest event is (none_opens S (m.mode_of state)) same in
        absurd (no_event found.between rest event found.split)
    begun state moments keys done rest event is false going same =
        let front = opening (m.mode_of state) in
        let start = starting m state moments in
        let found = behind front (keys_trace m logging start keys) done rest event is (none_opens S (m.mode_of state)) same in
        let later = stops keys start event is found.between rest going found.split in
        let taken : keys_of (front ++ found.between) ≡ keys_of found.between =
        flat_map-append event_key front found.between
        ∙ ap (λ more. more ++ flat_map event_key found.between) (keys_of_opening S (m.mode_of state)) in
        let whole : DoneAs (front ++ found.between) (front ++ keys_trace m logging start (keys_of found.between)) =
        done_after front found.between (keys_trace m logging start (keys_of found.between)) later.alike in
        subst (λ (events : List (Event S)). Halts start events (λ keys. front ++ keys_trace m logging start keys)) (sym found.joined)
        (record {
          alike = subst (λ more. DoneAs (front ++ found.between) (front ++ keys_trace m logging start more)) (sym taken) whole;
          going = subst (λ more. is_ended (m.mode_of (progress m start more).state) ≡ false) (sym taken) later.going;
        })

    -- and in that of a run
    pub run_stops : (state : S) (moments keys : List ℕ) (done rest : List (Event S)) (event : Event S) → is_turn event ≡ true
        → done ++ event ∷ rest ≡ run_trace m logging state moments keys
        → Halts (starting m state moments) done (run_trace m logging state moments)
    unfolding run_trace
    run_stops state moments keys done rest event is same =
        begun state moments keys done rest event is (is_ended (m.mode_of state)) refl same
