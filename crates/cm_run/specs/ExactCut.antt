-- What is at a cut, in lists of bytes, keys and moments.
use Rattle.std.specs.Prelude.{◌≡◌, ℕ, ◌+◌, List, ◌∷◌, ◌++◌, Option, Some, None}
use Rattle.cm_io.specs.Contents.{IsPart, add}
use Rattle.cm_run.specs.declared.stop.Stop.{Stop}
use Rattle.cm_run.specs.declared.stop.Stop.TheVariants as stop
use Rattle.cm_run.specs.Event.{Event, Ask, Key, End, Trials, Screen, Log, Moment, Memory, Act, event_log, event_screen, gets_after, keys_of, log_bytes, moments_after, screen_bytes, state_after, trials_of}
use Rattle.cm_run.specs.Observation.{Observation}

-- why a run is cut short at an event, if it ever is
abbrev pub cause_at : {S : Type 0} → Event S → Option Stop
cause_at (Screen bytes) = Some stop.Screen
cause_at (Log bytes) = Some stop.Log
cause_at (Key key) = Some stop.Keys
cause_at End = Some stop.Keys
cause_at Memory = Some stop.Memory
cause_at Ask = Some stop.Limit
cause_at (Trials cost) = None
cause_at Moment = None
cause_at (Act left) = None

-- of the events one is cut, for this cause. Keys, gets, moments, trials and state are those of the events before it;
-- the screen and the log have the bytes of those, and a part of its own
pub record IsExactCut {S : Type 0} (why : Stop) (before now : Observation S) (events : List (Event S)) : Type 0 where
  pub done : List (Event S)
  pub event : Event S
  pub rest : List (Event S)
  pub split : done ++ event ∷ rest ≡ events
  pub cause : cause_at event ≡ Some why
  pub keys : keys_of done ++ now.keys ≡ before.keys
  pub gets : now.gets ≡ gets_after before.gets done
  pub moments : now.moments ≡ moments_after before.moments done
  pub trials : now.trials ≡ before.trials + trials_of done
  pub state : now.state ≡ state_after before.state done
  pub shown : List ℕ
  pub shown_part : IsPart shown (event_screen event)
  pub screen : now.screen ≡ add before.screen (screen_bytes done ++ shown)
  pub logged : List ℕ
  pub logged_part : IsPart logged (event_log event)
  pub log : now.log ≡ add before.log (log_bytes done ++ logged)
