-- What one event, or some, add to what stands; clauses of private functions.
use Rattle.std.specs.Prelude.{ℕ, ◌≡◌, ◌+◌, if◌then◌else◌, nat_le, nat_lt, List, [], ◌∷◌, ◌++◌, length, map, take, Option}
use Rattle.cm_io_tests.specs.Texts.{meaning}
use Rattle.cm_io_tests.specs.Trace.{Event, event_of}
use Rattle.cm_io_tests.specs.Cut.{room_of, reach, outcome_of, outcome_after, stop_of}
use Rattle.cm_io_tests.specs.declared.trace.Faults.{Faults}
use Rattle.cm_io_tests.specs.declared.trace.Stands.{Stands}
use Rattle.cm_io_tests.specs.declared.trace.Stop.{Stop}
use Rattle.cm_io_tests.specs.declared.trace.Stop.TheVariants.{End, Keys}

-- one get more, or none where they fail
pub record Gets (fault : Option ℕ) (before now : ℕ) (stop : Stop) : Type 0 where
  pub stops : stop ≡ (if nat_le (room_of fault) before then Keys else End)
  pub counts : now ≡ (if nat_le (room_of fault) before then before else before + 1)

-- a text more, as far as there is room
pub record Puts (fault : Option ℕ) (stop : Stop) (before text now : List ℕ) (result : Stop) : Type 0 where
  pub adds : now ≡ take (room_of fault) (before ++ meaning text)
  pub stops : result ≡ (if nat_lt (room_of fault) (length (before ++ meaning text)) then stop else End)

-- where what stands is that after some events of which none failed, it is then that after one more
unfoldable pub Happens : Faults → Stands → List ℕ → Stands → Type 0
Happens faults before line now =
    (events : List Event) → stop_of faults events ≡ End → outcome_of before ≡ outcome_after faults events
    → outcome_of now ≡ outcome_after faults (events ++ event_of line ∷ [])

-- or that after those of some lines up to the first that fails
unfoldable pub GoesOn : Faults → Stands → List (List ℕ) → Stands → Type 0
GoesOn faults before lines now =
    (events : List Event) → stop_of faults events ≡ End → outcome_of before ≡ outcome_after faults events
    → outcome_of now ≡ outcome_after faults (reach faults events (map event_of lines))
