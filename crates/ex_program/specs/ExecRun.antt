-- The run of the EXEC over keys.
use Rattle.std.specs.Prelude.{ℕ, Bool, List, ◌++◌}
use Rattle.cm_run.specs.Event.{Event, screen_bytes, state_after}
use Rattle.cm_run.specs.Trace.{run_trace}
use Rattle.ex_run.specs.Over.{Over, closing, over}
use Rattle.ex_take.specs.Exec.{exec_semantics}
use Rattle.ex_take.specs.ExecState.{ExecState, exec_start}
use Rattle.ex_store.specs.State.{State}

-- the EXEC over a store
abbrev pub exec_over : Over ExecState
exec_over = over exec_semantics exec_start (λ at. at.interpreter.state)

-- what happens in the run that begins in this state, at these moments and keys
abbrev pub exec_trace : Bool → State → List ℕ → List ℕ → List (Event ExecState)
exec_trace logging start moments keys = run_trace exec_semantics logging (exec_start start) moments keys

-- where it leads
abbrev pub exec_left : Bool → State → List ℕ → List ℕ → ExecState
exec_left logging start moments keys = state_after (exec_start start) (exec_trace logging start moments keys)

-- all that a whole run shows: the line that is open is ended where LOGOUT has not ended the run
abbrev pub run_shown : Bool → State → List ℕ → List ℕ → List ℕ
run_shown logging start moments keys =
    screen_bytes (exec_trace logging start moments keys)
    ++ closing (exec_left logging start moments keys).interpreter.ended
