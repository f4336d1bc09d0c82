-- What happens in a run, in order.
use Rattle.std.specs.Prelude.{ℕ, List, [], ◌∷◌}
use Rattle.std.specs.List.{flat_map, fold, sum_by}
use Rattle.cm_io.specs.Clock.{later_moments}
use Rattle.cm_io.specs.Fault.{next_count}

-- a key is asked for; it is taken, or none is left; trials are counted; bytes go to the screen, or to the log; a moment
-- of the clock is taken; memory is asked for, for an act; the act is done, and leaves this state
pub data Event (S : Type 0) : Type 0 where
  Ask : Event S
  Key : ℕ → Event S
  End : Event S
  Trials : ℕ → Event S
  Screen : List ℕ → Event S
  Log : List ℕ → Event S
  Moment : Event S
  Memory : Event S
  Act : S → Event S

module _ {S : Type 0} where
  -- the bytes that an event shows
  abbrev pub event_screen : Event S → List ℕ
  event_screen (Screen bytes) = bytes
  event_screen event = []

  -- the bytes that it logs
  abbrev pub event_log : Event S → List ℕ
  event_log (Log bytes) = bytes
  event_log event = []

  -- the key that it takes
  abbrev pub event_key : Event S → List ℕ
  event_key (Key key) = key ∷ []
  event_key event = []

  -- what its trials cost
  abbrev pub event_trials : Event S → ℕ
  event_trials (Trials cost) = cost
  event_trials event = 0

  -- how often keys were asked for after it
  abbrev pub gets_after_event : ℕ → Event S → ℕ
  gets_after_event gets Ask = next_count gets
  gets_after_event gets event = gets

  -- the moments to come after it
  abbrev pub moments_after_event : List ℕ → Event S → List ℕ
  moments_after_event moments Moment = later_moments moments
  moments_after_event moments event = moments

  -- the state after it
  abbrev pub state_after_event : S → Event S → S
  state_after_event state (Act left) = left
  state_after_event state event = state

  -- the same of events in order
  abbrev pub screen_bytes : List (Event S) → List ℕ
  screen_bytes events = flat_map event_screen events

  abbrev pub log_bytes : List (Event S) → List ℕ
  log_bytes events = flat_map event_log events

  abbrev pub keys_of : List (Event S) → List ℕ
  keys_of events = flat_map event_key events

  abbrev pub trials_of : List (Event S) → ℕ
  trials_of events = sum_by event_trials events

  abbrev pub gets_after : ℕ → List (Event S) → ℕ
  gets_after gets events = fold gets_after_event gets events

  abbrev pub moments_after : List ℕ → List (Event S) → List ℕ
  moments_after moments events = fold moments_after_event moments events

  abbrev pub state_after : S → List (Event S) → S
  state_after state events = fold state_after_event state events
