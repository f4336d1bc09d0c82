-- What the objects outside tell at one moment, and the counter of trials.
use Rattle.std.specs.Prelude.{ℕ, Bool, List, IsTrue}
use Rattle.cm_io.specs.Contents.{Contents, Nothing}
use Rattle.cm_io.specs.declared.clock.Clock
use Rattle.cm_io.specs.declared.sink.Sink
use Rattle.cm_io.specs.declared.source.Source
use Rattle.cm_run.specs.Cause.{Counts, counts}
use Rattle.cm_run.specs.Observation.{Observation, observation}

-- the screen and the log; the keys that are left, and how often they were asked for; the moments to come; the counter;
-- and how often each has failed
pub record Scene : Type 0 where
  pub screen : Contents
  pub log : Contents
  pub keys : List ℕ
  pub gets : ℕ
  pub moments : List ℕ
  pub trials : ℕ
  pub faults : Counts

abbrev pub scene : {S W K C : Type 0} → Sink.Ghosts S → S → Sink.Ghosts W → W → Source.Ghosts K → K
    → Clock.Ghosts C → C → ℕ → Scene
scene s screen w log k keys c clock trials = record {
  screen = s.contents screen;
  log = w.contents log;
  keys = k.left keys;
  gets = k.gets keys;
  moments = c.left clock;
  trials = trials;
  faults = counts (s.faults screen) (w.faults log) (k.faults keys);
}

-- the same where there is no log
abbrev pub unlogged_scene : {S K C : Type 0} → Sink.Ghosts S → S → Source.Ghosts K → K → Clock.Ghosts C → C → ℕ → Scene
unlogged_scene s screen k keys c clock trials = record {
  screen = s.contents screen;
  log = Nothing;
  keys = k.left keys;
  gets = k.gets keys;
  moments = c.left clock;
  trials = trials;
  faults = counts (s.faults screen) 0 (k.faults keys);
}

-- whether the keys tell what is left of them, and the clock the moments to come
pub record Telling : Type 0 where
  pub keys : Bool
  pub clock : Bool

abbrev pub telling : Bool → Bool → Telling
telling keys clock = record { keys = keys; clock = clock }

-- both do
abbrev pub Tell : Telling → Type 0
Tell known = IsTrue known.keys × IsTrue known.clock

-- what is observed where an application is in this state
abbrev pub seen : {S : Type 0} → Scene → S → Observation S
seen at state = observation at.screen at.log at.keys at.gets at.moments at.trials state

-- the screen alone has changed
abbrev pub with_screen : Scene → Contents → ℕ → Scene
with_screen at screen faults = record at { screen = screen; faults = record at.faults { screen = faults } }
