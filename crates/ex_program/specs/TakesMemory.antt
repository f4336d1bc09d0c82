-- The keys at which a run may want memory.
use Rattle.std.specs.Prelude.{◌≡◌, ◌⊎◌, ℕ, true, false, List, Option, None, Some}
use Rattle.cm_state.specs.SessionState.{SessionState}
use Rattle.cm_state.specs.declared.turn.Turn.TheVariants as turn
use Rattle.cm_state.specs.Edit.{edited}
use Rattle.cm_run.specs.Idle.{turn_at}
use Rattle.cm_run.specs.Keeping.{is_line}
use Rattle.cm_run.specs.LastKey.{LastKey, met_by}
use Rattle.cm_run.specs.Semantics.{setting_of}
use Rattle.cm_run.specs.Trace.{RunState, starting}
use Rattle.ex_commands.specs.declared.command.Command.{Command}
use Rattle.ex_store.specs.State.{State}
use Rattle.ex_take.specs.Exec.{exec_semantics}
use Rattle.ex_take.specs.ExecState.{ExecState, exec_start}
use Rattle.ex_take.specs.Interpreter.{allocates, command_at, pending_with}
use Rattle.ex_take.specs.InterpreterState.{InterpreterState}
use Rattle.ex_take.specs.declared.pending.Pending.{Pending}

-- the command that a confirmed line is for: its own, or the one that waits for subcommands, with what the line adds
abbrev pub command_by : InterpreterState → SessionState → Option Pending → Command
command_by interpreter session None = command_at interpreter session
command_by interpreter session (Some pending) = (pending_with session pending).command

abbrev pub command_of_key : RunState ExecState → ℕ → Command
command_of_key at key =
    command_by at.state.interpreter (edited (setting_of exec_semantics at.state) at.session key)
    at.state.interpreter.pending

-- the key writes a file that is typed in
abbrev pub WritesTyped : RunState ExecState → ℕ → Type 0
WritesTyped at key = (is_line (exec_semantics.mode_of at.state) ≡ false) × (key ≡ 26)

-- or it finishes a line of a command that takes memory
pub record FinishesLine (at : RunState ExecState) (key : ℕ) : Type 0 where
  pub line : is_line (exec_semantics.mode_of at.state) ≡ true
  pub confirmed : turn_at exec_semantics at key ≡ turn.Confirmed
  pub takes : allocates (command_of_key at key) ≡ true

abbrev pub TakesMemory : RunState ExecState → ℕ → Type 0
TakesMemory at key = WritesTyped at key ⊎ FinishesLine at key

-- of a run from this state, at these moments, the last of the keys that were taken is such a one
pub record LastTakesMemory (start : State) (moments taken : List ℕ) : Type 0 where
  pub last : LastKey exec_semantics (starting exec_semantics (exec_start start) moments) taken
  pub takes : TakesMemory
      (met_by exec_semantics (starting exec_semantics (exec_start start) moments) taken last) last.key
