-- What the keys of a run show.
use Rattle.std.proofs.Common.{◌≡◌, ℕ, Bool, true, false, cond, List, [], ◌∷◌, ◌++◌, refl, ap, sym, ◌∙◌, append_assoc}
use Rattle.std.specs.List.{flat_map, fold}
use Rattle.std.proofs.lemmas.Grind.{flat_map-append}
use Rattle.cm_run.specs.Event.{Act, Event, Log, Memory, Moment, Screen, event_screen, screen_bytes, state_after, state_after_event}
use Rattle.cm_run.specs.Semantics.{Effect, Semantics}
use Rattle.cm_run.specs.Obey.{left_by, replies}
use Rattle.cm_run.specs.Progress.{progress}
use Rattle.cm_run.specs.Trace.{Keystroke, RunState, effect_trace, effects_trace, events_if, is_ended, key_trace, keys_trace, keystroke_trace, opening, outcome_trace, run_trace, starting, step, unless}

silent_log : (S : Type 0) (test : Bool) (line : List ℕ) → flat_map event_screen (events_if {S = S} test (Log line ∷ [])) ≡ []
silent_log S true line = refl
silent_log S false line = refl

silent_moment : (S : Type 0) (test : Bool) → flat_map event_screen (events_if {S = S} test (Moment ∷ [])) ≡ []
silent_moment S true = refl
silent_moment S false = refl

module _ {S : Type 0} where
  -- what acts show
  effect_shows : (may : Bool) (state : S) (reply : List ℕ) (more : List (Event S))
      → flat_map event_screen ((events_if may (Memory ∷ []) ++ (Act state ∷ Screen reply ∷ [])) ++ more) ≡ reply ++ flat_map event_screen more
  effect_shows true state reply more = refl
  effect_shows false state reply more = refl

  pub screen-effects : (effects : List (Effect S)) → screen_bytes (effects_trace effects) ≡ replies effects
  unfolding effects_trace
  screen-effects [] = refl
  screen-effects (effect ∷ effects) =
      effect_shows effect.may_allocate effect.state effect.reply (flat_map effect_trace effects) ∙ ap (λ bytes. effect.reply ++ bytes) (screen-effects effects)

  -- and where they lead
  effect_leads : (may : Bool) (from state : S) (reply : List ℕ) (more : List (Event S))
      → fold state_after_event from ((events_if may (Memory ∷ []) ++ (Act state ∷ Screen reply ∷ [])) ++ more) ≡ fold state_after_event state more
  effect_leads true from state reply more = refl
  effect_leads false from state reply more = refl

  pub state-effects : (effects : List (Effect S)) (state : S) → state_after state (effects_trace effects) ≡ left_by state effects
  unfolding effects_trace
  state-effects [] state = refl
  state-effects (effect ∷ effects) state =
      effect_leads effect.may_allocate state effect.state effect.reply (flat_map effect_trace effects) ∙ state-effects effects effect.state

  -- after events that show nothing
  after_silent : (first more : List (Event S)) → flat_map event_screen first ≡ [] → flat_map event_screen (first ++ more) ≡ flat_map event_screen more
  after_silent first more silent = flat_map-append event_screen first more ∙ ap (λ bytes. bytes ++ flat_map event_screen more) silent

  module _ (m : Semantics S) (logging : Bool) where
    -- a key shows its echo, what happens, and the prompt of the next line
    pub screen-keystroke : (state : S) (s : Keystroke S) → screen_bytes (keystroke_trace m logging state s)
        ≡ s.echo ++ (screen_bytes s.outcome.events
        ++ screen_bytes {S = S} (events_if s.outcome.begins (opening (m.mode_of (state_after state s.outcome.events)))))
    unfolding keystroke_trace outcome_trace
    screen-keystroke state s =
        let begins = events_if s.outcome.begins (opening (m.mode_of (state_after state s.outcome.events))) in
        let moment = events_if s.outcome.takes_moment (Moment ∷ []) in
        ap (λ bytes. s.echo ++ bytes)
        (after_silent (events_if logging (Log s.log ∷ [])) (moment ++ (s.outcome.events ++ begins)) (silent_log S logging s.log)
        ∙ after_silent moment (s.outcome.events ++ begins) (silent_moment S s.outcome.takes_moment)
        ∙ flat_map-append event_screen s.outcome.events begins)

    -- the bytes that these keys show, as far as the run goes on
    abbrev pub keys_shown : RunState S → List ℕ → List ℕ
    keys_shown at keys = screen_bytes (unless (is_ended (m.mode_of at.state)) (keys_trace m logging at keys))

    pub shown_none : (at : RunState S) → keys_shown at [] ≡ []
    shown_none at = by (is_ended (m.mode_of at.state))
      where
        by : (test : Bool) → flat_map event_screen (unless test (keys_trace m logging at [])) ≡ []
        by true = refl
        by false = refl

    pub shown_ended : (at : RunState S) (keys : List ℕ) → is_ended (m.mode_of at.state) ≡ true → keys_shown at keys ≡ []
    shown_ended at keys is = ap (λ test. flat_map event_screen (unless test (keys_trace m logging at keys))) is

    pub shown_key : (at : RunState S) (key : ℕ) (keys : List ℕ) → is_ended (m.mode_of at.state) ≡ false
        → keys_shown at (key ∷ keys) ≡ screen_bytes (key_trace m logging at key) ++ keys_shown (step m at key) keys
    shown_key at key keys going =
        ap (λ test. flat_map event_screen (unless test (keys_trace m logging at (key ∷ keys)))) going
        ∙ flat_map-append event_screen (key_trace m logging at key)
        (unless (is_ended (m.mode_of (step m at key).state)) (keys_trace m logging (step m at key) keys))

    -- a run shows the first prompt, and what its keys show
    pub shown_run : (state : S) (moments keys : List ℕ) → screen_bytes (run_trace m logging state moments keys)
        ≡ screen_bytes {S = S} (opening (m.mode_of state)) ++ keys_shown (starting m state moments) keys
    unfolding run_trace
    shown_run state moments keys =
        flat_map-append event_screen (opening (m.mode_of state)) (unless (is_ended (m.mode_of state)) (keys_trace m logging (starting m state moments) keys))

    -- keys in two parts show what the first show, and what the others show after them
    shown_parts : (first more : List ℕ) (at : RunState S) → keys_shown at (first ++ more) ≡ keys_shown at first ++ keys_shown (progress m at first) more
    unfolding progress
    shown_parts [] more at = ap (λ bytes. bytes ++ keys_shown at more) (sym (shown_none at))
    shown_parts (key ∷ first) more at = by (is_ended (m.mode_of at.state)) refl (shown_parts first more (step m at key))
      where
        by : (test : Bool) → is_ended (m.mode_of at.state) ≡ test
            → keys_shown (step m at key) (first ++ more) ≡ keys_shown (step m at key) first ++ keys_shown (progress m (step m at key) first) more
            → keys_shown at (key ∷ (first ++ more)) ≡ keys_shown at (key ∷ first) ++ keys_shown (cond test at (progress m (step m at key) first)) more
        by true is later =
            shown_ended at (key ∷ (first ++ more)) is
            ∙ sym (ap (λ bytes. bytes ++ keys_shown at more) (shown_ended at (key ∷ first) is) ∙ shown_ended at more is)
        by false is later =
            shown_key at key (first ++ more) is
            ∙ ap (λ bytes. screen_bytes (key_trace m logging at key) ++ bytes) later
            ∙ sym (append_assoc (screen_bytes (key_trace m logging at key)) (keys_shown (step m at key) first) (keys_shown (progress m (step m at key) first) more))
            ∙ ap (λ bytes. bytes ++ keys_shown (progress m (step m at key) first) more) (sym (shown_key at key first is))

    -- a run over more keys shows what the run over the first of them shows, and more
    pub shown_first : (state : S) (moments first more : List ℕ) → screen_bytes (run_trace m logging state moments (first ++ more))
        ≡ screen_bytes (run_trace m logging state moments first) ++ keys_shown (progress m (starting m state moments) first) more
    shown_first state moments first more =
        let start = starting m state moments in
        shown_run state moments (first ++ more)
        ∙ ap (λ bytes. screen_bytes {S = S} (opening (m.mode_of state)) ++ bytes) (shown_parts first more start)
        ∙ sym (append_assoc (screen_bytes {S = S} (opening (m.mode_of state))) (keys_shown start first) (keys_shown (progress m start first) more))
        ∙ ap (λ bytes. bytes ++ keys_shown (progress m start first) more) (sym (shown_run state moments first))
