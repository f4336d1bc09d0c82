-- What comes of a command file that is taken without keys.
use Rattle.std.specs.Prelude.{◌≡◌, ◌==◌, ◌&&◌, not, ℕ, List, [], ◌++◌, length, Bool, true, false, Option, None, Some, Result, Ok, Err}
use Rattle.cm_fields.specs.declared.code.Code.{Code}
use Rattle.cm_run.specs.Cut.{Traces}
use Rattle.cm_run.specs.Event.{Event}
use Rattle.cm_run.specs.Obey.{left_by}
use Rattle.cm_run.specs.Observation.{Observation}
use Rattle.cm_run.specs.Trace.{effects_trace, file_trace}
use Rattle.cm_run.specs.declared.engine.TheConstants.{FILE_LINES}
use Rattle.cm_run.specs.declared.stop.Stop.{Stop}
use Rattle.cm_run.specs.declared.stop.Stop.TheVariants as stop
use Rattle.ex_store.specs.declared.place.Place.{Place}
use Rattle.ex_take.specs.Exec.{take_effects, exec_semantics}
use Rattle.ex_take.specs.ExecState.{ExecState}
use Rattle.ex_take.specs.Interpreter.{is_free}
use Rattle.ex_take.specs.declared.taking.Took.{Took}
use Rattle.ex_take.specs.declared.taking.Took.TheVariants as took

-- the file is opened, and its lines are taken, as after a typed line
abbrev pub take_trace : ExecState → Place → ℕ → List (Event ExecState)
take_trace at file moment =
    effects_trace (take_effects at file)
    ++ file_trace exec_semantics FILE_LINES moment (left_by at (take_effects at file))

-- nothing is left to be done: no command waits, no file is typed in, and none is open
abbrev pub rested : ExecState → ExecState
rested at = record at {
  interpreter = record at.interpreter { pending = None; typing = None };
  files = [];
  taken = 0;
}

-- so it is, and LOGOUT has not acted
abbrev pub is_at_rest : ExecState → Bool
is_at_rest at =
    not at.interpreter.ended && (is_free at.interpreter && (length at.files == 0 && at.taken == 0))

-- [take] the trace of a file, or a cut of it, after which nothing is left to be done
pub record Takes (before now : Observation ExecState) (events : List (Event ExecState)) (outcome : Result Unit Stop)
    : Type 0 where
  pub left : ExecState
  pub traces : Traces before (record now { state = left }) events outcome
  pub rests : now.state ≡ rested left

-- whether it was cut short
abbrev pub outcome_of : Took → Result Unit Stop
outcome_of took.Ok = Ok tt
outcome_of took.Logout = Ok tt
outcome_of (took.Stopped code) = Ok tt
outcome_of took.NoMemory = Err stop.Memory
outcome_of took.Failed = Err stop.Screen

-- LOGOUT has acted, or a line was refused, or neither
abbrev pub took_at : Bool → Option Code → Took
took_at true why = took.Logout
took_at false (Some code) = took.Stopped code
took_at false None = took.Ok

abbrev pub took_of : ExecState → Took
took_of at = took_at at.interpreter.ended at.stop

-- by how the lines went
abbrev pub took_by : ExecState → Result Unit Stop → Took
took_by at (Ok value) = took_of at
took_by at (Err stop.Memory) = took.NoMemory
took_by at (Err stop.Screen) = took.Failed
took_by at (Err stop.Log) = took.Failed
took_by at (Err stop.Keys) = took.Failed
took_by at (Err stop.Limit) = took.Failed

-- the EXEC is at rest again, unless LOGOUT has acted
abbrev pub RestsUnlessEnded : ExecState → Type 0
RestsUnlessEnded at = at.interpreter.ended ≡ false → is_at_rest at ≡ true

abbrev pub Rests : Took → ExecState → Type 0
Rests took.Ok at = is_at_rest at ≡ true
Rests (took.Stopped code) at = is_at_rest at ≡ true
Rests took.Logout at = at.interpreter.ended ≡ true
Rests took.NoMemory at = RestsUnlessEnded at
Rests took.Failed at = RestsUnlessEnded at
