-- What the keys of a run cost.
use Rattle.std.proofs.Common.{◌≡◌, ℕ, ◌+◌, Bool, true, false, cond, List, [], ◌∷◌, ◌++◌, refl, ap, arith}
use Rattle.std.specs.Prelude.{None}
use Rattle.std.specs.List.{flat_map, sum_by}
use Rattle.std.proofs.lemmas.List.Sums.{sum_by-append}
use Rattle.cm_state.specs.SessionState.{SessionState}
use Rattle.cm_state.specs.declared.turn.Turn.{Turn}
use Rattle.cm_state.specs.declared.turn.Turn.TheVariants as turn
use Rattle.cm_run.specs.declared.engine.TheConstants.{FILE_LINES}
use Rattle.cm_run.specs.declared.mode.Mode.{Mode}
use Rattle.cm_run.specs.declared.mode.Mode.TheVariants as mode
use Rattle.cm_run.specs.Event.{Act, Ask, Event, Key, Log, Memory, Moment, Screen, Trials, event_trials, state_after, trials_of}
use Rattle.cm_run.specs.Semantics.{Effect, Semantics}
use Rattle.cm_run.specs.Progress.{keys_cost, keystroke_cost}
use Rattle.cm_run.specs.Trace.{Keystroke, RunState, effect_trace, effects_trace, events_if, file_trace, is_ended, key_trace, keys_trace, keystroke, keystroke_by, keystroke_trace, line_keystroke, line_trace, opening, outcome_trace, raw_keystroke, run_trace, starting, step, turn_outcome, unless}
use Rattle.cm_run.proofs.Fileless.{no_files}

free_opening : (S : Type 0) (it : Mode) → sum_by event_trials (opening {S = S} it) ≡ 0
free_opening S (mode.Line node prompt takes_moment) = refl
free_opening S mode.Raw = refl
free_opening S mode.Ended = refl

module _ {S : Type 0} where
  -- two lists of events cost what both do
  both : (first more : List (Event S)) → sum_by event_trials (first ++ more) ≡ sum_by event_trials first + sum_by event_trials more
  both first more = sum_by-append event_trials first more

  -- events that cost nothing
  free_if : (test : Bool) (events : List (Event S)) → sum_by event_trials events ≡ 0 → sum_by event_trials (events_if test events) ≡ 0
  free_if true events free = free
  free_if false events free = refl

  module _ (m : Semantics S) where
    -- a key costs its line, and what happens besides
    outcome_costs : (logging : Bool) (state : S) (s : Keystroke S) → sum_by event_trials (keystroke_trace m logging state s) ≡ keystroke_cost s
    unfolding keystroke_trace outcome_trace
    outcome_costs logging state s =
        let log : List (Event S) = events_if logging (Log s.log ∷ []) in
        let moment : List (Event S) = events_if s.outcome.takes_moment (Moment ∷ []) in
        let begins : List (Event S) = events_if s.outcome.begins (opening (m.mode_of (state_after state s.outcome.events))) in
        let head : List (Event S) = Trials s.cost ∷ Screen s.echo ∷ [] in
        let costs : sum_by event_trials head ≡ 0 + s.cost + 0 = refl in
        let all : sum_by event_trials (keystroke_trace m logging state s)
        ≡ sum_by event_trials head + sum_by event_trials (log ++ (moment ++ (s.outcome.events ++ begins)))
        = both head (log ++ (moment ++ (s.outcome.events ++ begins))) in
        omega (
          arith,
          costs,
          all,
          both log (moment ++ (s.outcome.events ++ begins)),
          both moment (s.outcome.events ++ begins),
          both s.outcome.events begins,
          free_if logging (Log s.log ∷ []) refl,
          free_if s.outcome.takes_moment (Moment ∷ []) refl,
          free_if s.outcome.begins (opening (m.mode_of (state_after state s.outcome.events))) (free_opening S (m.mode_of (state_after state s.outcome.events))),
        )

    module _ (logging : Bool) where
      -- and so do keys in turn
      keys_are_counted : (keys : List ℕ) (at : RunState S)
          → sum_by event_trials (unless (is_ended (m.mode_of at.state)) (keys_trace m logging at keys)) ≡ keys_cost m at keys
      unfolding keys_cost
      keys_are_counted [] at = by (is_ended (m.mode_of at.state))
        where
          by : (test : Bool) → sum_by event_trials (unless test (keys_trace m logging at [])) ≡ 0
          by true = refl
          by false = refl
      keys_are_counted (key ∷ keys) at = by (is_ended (m.mode_of at.state)) (keys_are_counted keys (step m at key))
        where
          by : (test : Bool)
              → sum_by event_trials (unless (is_ended (m.mode_of (step m at key).state)) (keys_trace m logging (step m at key) keys))
              ≡ keys_cost m (step m at key) keys
              → sum_by event_trials (unless test (keys_trace m logging at (key ∷ keys)))
              ≡ cond test 0 (keystroke_cost (keystroke m at key) + keys_cost m (step m at key) keys)
          by true later = refl
          by false later =
              let after : List (Event S) = unless (is_ended (m.mode_of (step m at key).state)) (keys_trace m logging (step m at key) keys) in
              let head : List (Event S) = Ask ∷ Key key ∷ [] in
              let free : sum_by event_trials head ≡ 0 = refl in
              let all : sum_by event_trials (keys_trace m logging at (key ∷ keys))
              ≡ sum_by event_trials head + sum_by event_trials (key_trace m logging at key ++ after) = both head (key_trace m logging at key ++ after) in
              omega (
                arith,
                free,
                all,
                both (key_trace m logging at key) after,
                outcome_costs logging at.state (keystroke m at key),
                later,
              )

      -- the counter of a run
      pub run_is_counted : (state : S) (moments keys : List ℕ)
          → trials_of (run_trace m logging state moments keys) ≡ keys_cost m (starting m state moments) keys
      unfolding run_trace
      run_is_counted state moments keys =
          omega (
            arith,
            both (opening (m.mode_of state)) (unless (is_ended (m.mode_of state)) (keys_trace m logging (starting m state moments) keys)),
            free_opening S (m.mode_of state),
            keys_are_counted keys (starting m state moments),
          )

  -- acts cost nothing
  free_effect : (may : Bool) (state : S) (reply : List ℕ) → sum_by event_trials (events_if may (Memory ∷ []) ++ (Act state ∷ Screen reply ∷ [])) ≡ 0
  free_effect true state reply = refl
  free_effect false state reply = refl

  free_effects : (effects : List (Effect S)) → sum_by event_trials (effects_trace effects) ≡ 0
  unfolding effects_trace
  free_effects [] = refl
  free_effects (effect ∷ effects) =
      omega (
        arith,
        both (effect_trace effect) (flat_map effect_trace effects),
        free_effect effect.may_allocate effect.state effect.reply,
        free_effects effects,
      )

  -- where no line of a command file ever waits, a key costs its line alone
  module _ (m : Semantics S) (none : (state : S) → m.file_line state ≡ None) where
    free_turn : (state : S) (session : SessionState) (moment : ℕ) (it : Turn) → sum_by event_trials (turn_outcome m state session moment it).events ≡ 0
    unfolding turn_outcome line_trace
    free_turn state session moment turn.Confirmed =
        let acts = effects_trace (m.line_effects state session moment) in
        omega (
          arith,
          both acts (file_trace m FILE_LINES moment (state_after state acts)),
          free_effects (m.line_effects state session moment),
          ap (λ events. sum_by event_trials events) (no_files m none FILE_LINES moment (state_after state acts)),
        )
    free_turn state session moment (turn.Refused fault) = refl
    free_turn state session moment turn.Abandoned = refl
    free_turn state session moment turn.Edited = refl
    free_turn state session moment turn.Failed = refl

    free_events : (at : RunState S) (key : ℕ) (it : Mode) → sum_by event_trials (keystroke_by m at key it).outcome.events ≡ 0
    unfolding line_keystroke raw_keystroke
    free_events at key (mode.Line node prompt takes_moment) = free_turn _ _ _ _
    free_events at key mode.Raw = free_effects _
    free_events at key mode.Ended = free_effects _

    pub line_is_all : (at : RunState S) (key : ℕ) → keystroke_cost (keystroke m at key) ≡ (keystroke m at key).cost
    line_is_all at key = omega (arith, free_events at key (m.mode_of at.state))
