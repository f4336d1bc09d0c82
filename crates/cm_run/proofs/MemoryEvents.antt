-- At which key of a run memory is asked for.
-- Where an event stands is told by parted. Whether it occurs is a Bool (asks), which computes over ++ by
-- list_any-append. How often keys are asked for is one number (gets_behind, Asked).
use Rattle.std.proofs.Common.{◌≡◌, ◌⊎◌, inl, inr, ℕ, Bool, true, false, ◌||◌, List, [], ◌∷◌, ◌++◌, refl, ap, sym, subst, ◌∙◌}
use Rattle.std.specs.List.{list_any}
use Rattle.std.proofs.lemmas.List.Folds.{list_any-append}
use Rattle.std.proofs.lemmas.Grind.{flat_map-append}
use Rattle.cm_run.specs.declared.mode.Mode.{Mode}
use Rattle.cm_run.specs.declared.mode.Mode.TheVariants as mode
use Rattle.cm_run.specs.Event.{Event, Act, Ask, Key, End, Log, Memory, Moment, Screen, event_key, keys_of, state_after}
use Rattle.cm_run.specs.LastKey.{LastKey, met_by}
use Rattle.cm_run.specs.Semantics.{Effect, Semantics}
use Rattle.cm_run.specs.Progress.{progress}
use Rattle.cm_run.specs.Trace.{Keystroke, RunState, effect_trace, effects_trace, events_if, is_ended, key_trace, keys_trace, keystroke_trace, opening, outcome_trace, run_trace, starting, step, unless}
use Rattle.cm_run.proofs.Prefixes.{keys_of_key}
use Rattle.cm_run.proofs.Progress.{progress_key}

either : (a b : Bool) → a ≡ false → (a || b) ≡ b
either true b none = absurd (cc)
either false b none = refl

or_none : (a : Bool) → (a || false) ≡ a
or_none true = refl
or_none false = refl

-- no key is before what is first among events without keys
no_front : (first more : List ℕ) → first ++ more ≡ [] → first ≡ []
no_front [] more none = refl
no_front (key ∷ first) more none = absurd (cc)

module _ {S : Type 0} where
  -- memory is asked for among these events
  abbrev pub is_memory : Event S → Bool
  is_memory Memory = true
  is_memory event = false

  abbrev pub asks : List (Event S) → Bool
  asks events = list_any is_memory events

none_opens : (S : Type 0) (it : Mode) → asks (opening {S = S} it) ≡ false
none_opens S (mode.Line node prompt takes_moment) = refl
none_opens S mode.Raw = refl
none_opens S mode.Ended = refl

module _ {S : Type 0} where
  pub asks_both : (first more : List (Event S)) → asks (first ++ more) ≡ (asks first || asks more)
  asks_both first more = list_any-append is_memory first more

  pub asks_here : (done rest : List (Event S)) → asks (done ++ Memory ∷ rest) ≡ true
  asks_here [] rest = refl
  asks_here (event ∷ done) rest = by (is_memory event) (asks_here done rest) where
    by : (first : Bool) → asks (done ++ Memory ∷ rest) ≡ true → (first || asks (done ++ Memory ∷ rest)) ≡ true
    by true later = refl
    by false later = later

  -- by acts, where it may run out for one
  pub asks_effects : (effects : List (Effect S)) → asks (effects_trace effects) ≡ list_any (λ (effect : Effect S). effect.may_allocate) effects
  unfolding effects_trace
  asks_effects [] = refl
  asks_effects (effect ∷ effects) =
      asks_both (effect_trace effect) (effects_trace effects) ∙ ap (λ more. asks (effect_trace effect) || more) (asks_effects effects)
      ∙ ap (λ first. first || list_any (λ (it : Effect S). it.may_allocate) effects) (one effect.may_allocate) where
        one : (may : Bool) → asks (events_if may (Memory ∷ []) ++ (Act effect.state ∷ Screen effect.reply ∷ [])) ≡ may
        one true = refl
        one false = refl

  none_if : (test : Bool) (events : List (Event S)) → asks events ≡ false → asks (events_if test events) ≡ false
  none_if true events none = none
  none_if false events none = refl

  -- by a key, where it is by the outcome of the key
  pub asks_keystroke : (m : Semantics S) (logging : Bool) (state : S) (s : Keystroke S) → asks (keystroke_trace m logging state s) ≡ asks s.outcome.events
  unfolding keystroke_trace outcome_trace
  asks_keystroke m logging state s =
      let log = events_if logging (Log s.log ∷ []) in
      let moment = events_if s.outcome.takes_moment (Moment ∷ []) in
      let begins = events_if s.outcome.begins (opening (m.mode_of (state_after state s.outcome.events))) in
      asks_both log (moment ++ (s.outcome.events ++ begins)) ∙ either (asks log) _ (none_if logging (Log s.log ∷ []) refl)
      ∙ asks_both moment (s.outcome.events ++ begins) ∙ either (asks moment) _ (none_if s.outcome.takes_moment (Moment ∷ []) refl)
      ∙ asks_both s.outcome.events begins
      ∙ ap (λ none. asks s.outcome.events || none) (none_if s.outcome.begins _ (none_opens S (m.mode_of (state_after state s.outcome.events))))
      ∙ or_none (asks s.outcome.events)

  never : (done rest events : List (Event S)) → done ++ Memory ∷ rest ≡ events → asks events ≡ false → ⊥
  never done rest events same none = let both : true ≡ false = sym (asks_here done rest) ∙ ap (λ it. asks it) same ∙ none in cc

  -- memory that is asked for among the events of two lists is among those of one
  abbrev In : List (Event S) → List (Event S) → Type 0
  In done events = (rest : List (Event S)) × (done ++ Memory ∷ rest ≡ events)

  pub record After (first more done : List (Event S)) : Type 0 where
    pub between : List (Event S)
    pub joined : done ≡ first ++ between
    pub there : In between more

  parted : (first more done rest : List (Event S)) → done ++ Memory ∷ rest ≡ first ++ more → In done first ⊎ After first more done
  parted [] more done rest same = inr (record { between = done; joined = refl; there = (rest, same) })
  parted (event ∷ first) more [] rest same =
      let head : Memory ≡ event = cc in inl (first, ap (λ (it : Event S). it ∷ first) head)
  parted (event ∷ first) more (other ∷ done) rest same = by (parted first more done rest tail) where
    head : other ≡ event
    head = cc

    tail : done ++ Memory ∷ rest ≡ first ++ more
    tail = cc

    by : In done first ⊎ After first more done → In (other ∷ done) (event ∷ first) ⊎ After (event ∷ first) more (other ∷ done)
    by (inl found) = inl (found.0, ap (λ (it : Event S). it ∷ (done ++ Memory ∷ found.0)) head ∙ ap (λ events. event ∷ events) found.1)
    by (inr after) = inr (record {
      between = after.between;
      joined = ap (λ (it : Event S). it ∷ done) head ∙ ap (λ events. event ∷ events) after.joined;
      there = after.there;
    })

  keyless : (done events : List (Event S)) → In done events → keys_of events ≡ [] → keys_of done ≡ []
  keyless done events found none =
      no_front (keys_of done) (keys_of (Memory ∷ found.0))
      (sym (flat_map-append event_key done (Memory ∷ found.0)) ∙ ap (λ it. keys_of it) found.1 ∙ none)

  module _ (m : Semantics S) (logging : Bool) where
    -- some key was the last that was taken, and among what it did memory was asked for
    pub record Asked (start : RunState S) (taken : List ℕ) : Type 0 where
      pub last : LastKey m start taken
      pub there : asks (key_trace m logging (met_by m start taken last) last.key) ≡ true

    -- so it is after a key before
    after_key : (at : RunState S) (key : ℕ) (taken : List ℕ) → is_ended (m.mode_of at.state) ≡ false → Asked (step m at key) taken → Asked at (key ∷ taken)
    after_key at key taken going asked =
        let same = progress_key m at key asked.last.first going in
        record {
          last = record {
            first = key ∷ asked.last.first;
            key = asked.last.key;
            joined = ap (λ keys. key ∷ keys) asked.last.joined;
            going = subst (λ (it : RunState S). is_ended (m.mode_of it.state) ≡ false) (sym same) asked.last.going;
          };
          there = subst (λ (it : RunState S). asks (key_trace m logging it asked.last.key) ≡ true) (sym same) asked.there;
        }

    -- what stands of a key before what it does, and what is after it
    abbrev front_of : ℕ → List (Event S)
    front_of key = Ask ∷ Key key ∷ []

    abbrev after_of : RunState S → ℕ → List ℕ → List (Event S)
    after_of at key keys = unless (is_ended (m.mode_of (step m at key).state)) (keys_trace m logging (step m at key) keys)

    -- the keys after it
    abbrev Later : RunState S → ℕ → List ℕ → Type 0
    Later at key keys = (further more : List (Event S)) → is_ended (m.mode_of (step m at key).state) ≡ false
        → further ++ Memory ∷ more ≡ keys_trace m logging (step m at key) keys → Asked (step m at key) (keys_of further)

    asked_keys : (keys : List ℕ) (at : RunState S) (done rest : List (Event S)) → is_ended (m.mode_of at.state) ≡ false
        → done ++ Memory ∷ rest ≡ keys_trace m logging at keys → Asked at (keys_of done)
    unfolding progress
    asked_keys [] at done rest going same = absurd (never done rest (Ask ∷ End ∷ []) same refl)
    asked_keys (key ∷ keys) at done rest going same =
        by (λ further more on next. asked_keys keys (step m at key) further more on next)
        (parted (front_of key) (key_trace m logging at key ++ after_of at key keys) done rest same)
      where
        here : (between : List (Event S)) → done ≡ front_of key ++ between → In between (key_trace m logging at key) → Asked at (keys_of done)
        here between joined found =
            let none : keys_of between ≡ [] = keyless between (key_trace m logging at key) found (keys_of_key m logging at key) in
            let taken : key ∷ [] ≡ keys_of done = ap (λ more. key ∷ more) (sym none) ∙ ap (λ it. keys_of it) (sym joined) in
            record {
              last = record { first = []; key = key; joined = taken; going = going };
              there = ap (λ it. asks it) (sym found.1) ∙ asks_here between found.0;
            }

        later : Later at key keys → (ended : Bool) → is_ended (m.mode_of (step m at key).state) ≡ ended → (between further : List (Event S)) → done ≡ front_of key ++ between
            → between ≡ key_trace m logging at key ++ further → In further (unless ended (keys_trace m logging (step m at key) keys)) → Asked at (keys_of done)
        later again true is between further joined then found = absurd (never further found.0 [] found.1 refl)
        later again false is between further joined then found =
            let taken : key ∷ keys_of further ≡ keys_of done =
            ap (λ more. key ∷ (more ++ keys_of further)) (sym (keys_of_key m logging at key))
            ∙ ap (λ more. key ∷ more) (sym (flat_map-append event_key (key_trace m logging at key) further))
            ∙ ap (λ it. key ∷ keys_of it) (sym then) ∙ ap (λ it. keys_of it) (sym joined) in
            subst (λ it. Asked at it) taken
            (after_key at key (keys_of further) going (again further found.0 is found.1))

        within : Later at key keys → (between : List (Event S)) → done ≡ front_of key ++ between → In between (key_trace m logging at key) ⊎ After (key_trace m logging at key) (after_of at key keys) between → Asked at (keys_of done)
        within again between joined (inl found) = here between joined found
        within again between joined (inr found) =
            later again (is_ended (m.mode_of (step m at key).state)) refl between found.between joined found.joined found.there

        by : Later at key keys → In done (front_of key) ⊎ After (front_of key) (key_trace m logging at key ++ after_of at key keys) done → Asked at (keys_of done)
        by again (inl found) = absurd (never done found.0 (front_of key) found.1 refl)
        by again (inr found) =
            within again found.between found.joined (parted (key_trace m logging at key) (after_of at key keys) found.between found.there.0 found.there.1)

    -- where memory is asked for in a run
    pub asked_run : (state : S) (moments keys : List ℕ) (done rest : List (Event S)) → done ++ Memory ∷ rest ≡ run_trace m logging state moments keys
        → Asked (starting m state moments) (keys_of done)
    unfolding run_trace
    asked_run state moments keys done rest same = by (parted (opening (m.mode_of state)) (unless (is_ended (m.mode_of state)) (keys_trace m logging (starting m state moments) keys)) done rest same)
      where
        no_key : (it : Mode) → keys_of (opening {S = S} it) ≡ []
        no_key (mode.Line node prompt takes_moment) = refl
        no_key mode.Raw = refl
        no_key mode.Ended = refl

        later : (ended : Bool) → is_ended (m.mode_of state) ≡ ended → (between : List (Event S)) → done ≡ opening (m.mode_of state) ++ between
            → In between (unless ended (keys_trace m logging (starting m state moments) keys)) → Asked (starting m state moments) (keys_of done)
        later true is between joined found = absurd (never between found.0 [] found.1 refl)
        later false is between joined found =
            let taken : keys_of between ≡ keys_of done =
            ap (λ more. more ++ keys_of between) (sym (no_key (m.mode_of state)))
            ∙ sym (flat_map-append event_key (opening (m.mode_of state)) between) ∙ ap (λ it. keys_of it) (sym joined) in
            subst (λ it. Asked (starting m state moments) it) taken (asked_keys keys (starting m state moments) between found.0 is found.1)

        by : In done (opening (m.mode_of state)) ⊎ After (opening (m.mode_of state)) (unless (is_ended (m.mode_of state)) (keys_trace m logging (starting m state moments) keys)) done → Asked (starting m state moments) (keys_of done)
        by (inl found) = absurd (never done found.0 (opening (m.mode_of state)) found.1 (none_opens S (m.mode_of state)))
        by (inr found) = later (is_ended (m.mode_of state)) refl found.between found.joined found.there
