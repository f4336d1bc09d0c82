-- A run that goes to its end, or is cut short.
use Rattle.std.specs.Prelude.{◌≡◌, ℕ, List, [], ◌∷◌, ◌++◌, Result, Ok, Err}
use Rattle.cm_run.specs.declared.stop.Stop.{Stop}
use Rattle.cm_run.specs.declared.stop.Stop.TheVariants as stop
use Rattle.cm_run.specs.Event.{Event, Ask, Key, End, Screen, Log, Memory}
use Rattle.cm_run.specs.Observation.{Observation, Performs}

-- how an event is cut short: the screen, or the log, takes a part of its bytes, and not the rest; a key, or that none
-- is left, is not told; memory is not given; a key is not asked for, since as many are taken as may be
pub data Cut : Type 0 where
  ScreenCut : List ℕ → List ℕ → Cut
  LogCut : List ℕ → List ℕ → Cut
  KeyCut : ℕ → Cut
  EndCut : Cut
  MemoryCut : Cut
  LimitCut : Cut

-- why it is
abbrev pub why_of : Cut → Stop
why_of (ScreenCut part rest) = stop.Screen
why_of (LogCut part rest) = stop.Log
why_of (KeyCut key) = stop.Keys
why_of EndCut = stop.Keys
why_of MemoryCut = stop.Memory
why_of LimitCut = stop.Limit

module _ {S : Type 0} where
  -- the event that is cut
  abbrev pub event_of : Cut → Event S
  event_of (ScreenCut part rest) = Screen (part ++ rest)
  event_of (LogCut part rest) = Log (part ++ rest)
  event_of (KeyCut key) = Key key
  event_of EndCut = End
  event_of MemoryCut = Memory
  event_of LimitCut = Ask

  -- and what happens of it
  abbrev pub part_of : Cut → List (Event S)
  part_of (ScreenCut part rest) = Screen part ∷ []
  part_of (LogCut part rest) = Log part ∷ []
  part_of (KeyCut key) = []
  part_of EndCut = []
  part_of MemoryCut = []
  part_of LimitCut = []

  -- all events before one have happened, that one in part, and nothing after it
  pub record IsCut (why : Stop) (before now : Observation S) (events : List (Event S)) : Type 0 where
    pub done : List (Event S)
    pub cut : Cut
    pub rest : List (Event S)
    pub cause : why_of cut ≡ why
    pub split : done ++ event_of cut ∷ rest ≡ events
    pub stands : Performs before now (done ++ part_of cut)

  -- the events happen, or are cut short
  unfoldable pub Traces : Observation S → Observation S → List (Event S) → Result Unit Stop → Type 0
  Traces before now events (Ok value) = Performs before now events
  Traces before now events (Err why) = IsCut why before now events
