-- Which acts have been done after a cut, told by the bytes that are shown.
use Rattle.std.specs.Prelude.{◌≡◌, ◌<◌, ℕ, List, ◌∷◌, ◌++◌, length}
use Rattle.cm_io.specs.Contents.{add}
use Rattle.cm_run.specs.Event.{Act, Event, screen_bytes, state_after}
use Rattle.cm_run.specs.Observation.{Observation}

module _ {S : Type 0} where
  -- the place of the reply of an act, by the events before it: how many bytes these show
  abbrev pub reply_place : List (Event S) → ℕ
  reply_place before = length (screen_bytes before)

  -- of the acts among these events those are done whose reply place is less than so many bytes, and none is whose
  -- reply place is more
  pub record AreTold (events : List (Event S)) (shown : ℕ) (done : List (Event S)) : Type 0 where
    pub acted : (before after : List (Event S)) (left : S) → before ++ Act left ∷ after ≡ events
        → reply_place before < shown → (more : List (Event S)) × (before ++ Act left ∷ more ≡ done)
    pub ahead : (before after : List (Event S)) (left : S) → before ++ Act left ∷ after ≡ events
        → shown < reply_place before → (more : List (Event S)) × (done ++ more ≡ before)

  -- the first of the events have been done, and have left the state; the bytes that are shown tell which
  pub record StandsAsShown (before now : Observation S) (events : List (Event S)) : Type 0 where
    pub done : List (Event S)
    pub rest : List (Event S)
    pub bytes : List ℕ
    pub split : done ++ rest ≡ events
    pub screen : now.screen ≡ add before.screen bytes
    pub state : now.state ≡ state_after before.state done
    pub acts : AreTold events (length bytes) done
