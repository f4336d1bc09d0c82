-- What stands where a trace is cut by its first fault.
use Rattle.std.specs.Prelude.{ℕ, Bool, true, false, if◌then◌else◌, nat_lt, min, List, [], ◌∷◌, ◌++◌, length, take, fold, sum_by, Option, unwrap_or}
use Rattle.std.specs.List.{flat_map}
use Rattle.cm_io.specs.Fault.{last_count}
use Rattle.cm_io_tests.specs.Trace.{Event, events_of, get_count, log_text, screen_text, state_after}
use Rattle.cm_io_tests.specs.declared.trace.Faults.{Faults}
use Rattle.cm_io_tests.specs.declared.trace.Stands.{Stands}
use Rattle.cm_io_tests.specs.declared.trace.Stop.{Stop}
use Rattle.cm_io_tests.specs.declared.trace.Stop.TheVariants.{End, Keys, Screen, Log}

-- where a run stopped, how many keys it got, what was put, and the state
pub record Outcome : Type 0 where
  pub stop : Stop
  pub gets : ℕ
  pub screen : List ℕ
  pub log : List ℕ
  pub state : List ℕ

-- how much comes before the fault, as far as numbers go where there is none
unfoldable pub room_of : Option ℕ → ℕ
room_of fault = unwrap_or fault last_count

-- of some events: all gets, all that is put on the screen, and on the log, and the last state
unfoldable pub gets : List Event → ℕ
gets events = sum_by get_count events

unfoldable pub screen : List Event → List ℕ
screen events = flat_map screen_text events

unfoldable pub log : List Event → List ℕ
log events = flat_map log_text events

unfoldable pub state : List Event → List ℕ
state events = fold state_after [] events

-- what fails in some events, if anything does: End is that nothing fails
unfoldable pub stop_of : Faults → List Event → Stop
stop_of faults events =
    if nat_lt (room_of faults.gets) (gets events) then Keys
    else (if nat_lt (room_of faults.screen) (length (screen events)) then Screen
    else (if nat_lt (room_of faults.log) (length (log events)) then Log else End))

-- what these events leave, if no more is done of them than there is room for
unfoldable pub outcome_after : Faults → List Event → Outcome
outcome_after faults events = record {
  stop = stop_of faults events;
  gets = min (room_of faults.gets) (gets events);
  screen = take (room_of faults.screen) (screen events);
  log = take (room_of faults.log) (log events);
  state = state events;
}

abbrev pub is_end : Stop → Bool
is_end End = true
is_end Keys = false
is_end Screen = false
is_end Log = false

-- the events that were met, of which none failed, and those to come up to the first that fails
unfoldable pub reach : Faults → List Event → List Event → List Event
reach faults before [] = before
reach faults before (event ∷ events) =
    if is_end (stop_of faults (before ++ event ∷ [])) then reach faults (before ++ event ∷ []) events
    else before ++ event ∷ []

-- what stands where a trace is cut by the first of its events that fails
unfoldable pub stands_at : Faults → List ℕ → Outcome
stands_at faults trace = outcome_after faults (reach faults [] (events_of trace))

-- what the code says of it
unfoldable pub outcome_of : Stands → Outcome
outcome_of stands = record {
  stop = stands.stop;
  gets = stands.gets;
  screen = stands.screen.items;
  log = stands.log.items;
  state = stands.state.items;
}
