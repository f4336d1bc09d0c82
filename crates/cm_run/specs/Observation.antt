-- What the objects outside tell, the counter of trials and the state, at one moment of a run.
use Rattle.std.specs.Prelude.{◌≡◌, ℕ, ◌+◌, List, ◌++◌}
use Rattle.cm_io.specs.Contents.{Contents, add}
use Rattle.cm_run.specs.Event.{Event, gets_after, keys_of, log_bytes, moments_after, screen_bytes, state_after, trials_of}

-- the screen and the log; the keys that are left, and how often they were asked for; the moments to come; the counter;
-- and the state
pub record Observation (S : Type 0) : Type 0 where
  pub screen : Contents
  pub log : Contents
  pub keys : List ℕ
  pub gets : ℕ
  pub moments : List ℕ
  pub trials : ℕ
  pub state : S

abbrev pub observation : {S : Type 0} → Contents → Contents → List ℕ → ℕ → List ℕ → ℕ → S → Observation S
observation screen log keys gets moments trials state = record {
  screen = screen;
  log = log;
  keys = keys;
  gets = gets;
  moments = moments;
  trials = trials;
  state = state;
}

-- these events lie between two moments, and nothing else
pub record Between {S : Type 0} (before now : Observation S) (events : List (Event S)) : Type 0 where
  pub screen : now.screen ≡ add before.screen (screen_bytes events)
  pub log : now.log ≡ add before.log (log_bytes events)
  pub keys : keys_of events ++ now.keys ≡ before.keys
  pub gets : now.gets ≡ gets_after before.gets events
  pub moments : now.moments ≡ moments_after before.moments events
  pub trials : now.trials ≡ before.trials + trials_of events
  pub state : now.state ≡ state_after before.state events

-- all of the events happen
unfoldable pub Performs : {S : Type 0} → Observation S → Observation S → List (Event S) → Type 0
Performs before now events = Between before now events
