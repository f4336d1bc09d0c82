-- The line with which a run ends.
use Rattle.std.specs.Prelude.{◌≡◌, ◌<◌, ℕ, List, None, Some}
use Rattle.cm_blocks.specs.declared.field.Ending.TheVariants as endings
use Rattle.cm_state.specs.Edit.{edited}
use Rattle.cm_state.specs.SessionState.{SessionState}
use Rattle.cm_state.specs.declared.turn.Turn.TheVariants as turn
use Rattle.cm_run.specs.declared.engine.TheConstants.{FILE_LINES}
use Rattle.cm_run.specs.Event.{state_after}
use Rattle.cm_run.specs.Idle.{turn_at}
use Rattle.cm_run.specs.Semantics.{setting_of}
use Rattle.cm_run.specs.Obey.{left_by}
use Rattle.cm_run.specs.Trace.{RunState, file_session, file_trace, moment_at, next_line}
use Rattle.ex_commands.specs.declared.command.Command.TheVariants as commands
use Rattle.ex_take.specs.Exec.{exec_semantics, line_effects}
use Rattle.ex_take.specs.ExecState.{ExecState}
use Rattle.ex_take.specs.Interpreter.{command_at}

-- a line whose parse is done commands LOGOUT, where no command waits for subcommands
pub record IsLogout (at : ExecState) (session : SessionState) : Type 0 where
  pub done : session.ending ≡ endings.Done
  pub main : at.interpreter.pending ≡ None
  pub command : command_at at.interpreter session ≡ commands.Logout

-- where the first lines of the command files that wait lead, so many of them
abbrev pub after_lines : ℕ → ExecState → ℕ → ExecState
after_lines moment at lines = state_after at (file_trace exec_semantics lines moment at)

-- one of the lines of the command files that wait, at most so many, commands LOGOUT under the state that it finds
pub record HasLogout (most moment : ℕ) (at : ExecState) : Type 0 where
  pub before : ℕ
  pub within : before < most
  pub line : List ℕ
  pub next : next_line exec_semantics (after_lines moment at before) ≡ Some line
  pub is : IsLogout (after_lines moment at before) (file_session exec_semantics (after_lines moment at before) line)

-- the line that a key leaves, and its moment
abbrev pub session_at : RunState ExecState → ℕ → SessionState
session_at at key = edited (setting_of exec_semantics at.state) at.session key

abbrev pub moment_of : RunState ExecState → ℕ
moment_of at = moment_at exec_semantics at.state at.moments

-- a key confirms a line that commands LOGOUT, or one after which a line of the command files does that it takes
pub data ConfirmsLogout (at : RunState ExecState) (key : ℕ) : Type 0 where
  ByLine : turn_at exec_semantics at key ≡ turn.Confirmed → IsLogout at.state (session_at at key)
      → ConfirmsLogout at key
  ByFile : turn_at exec_semantics at key ≡ turn.Confirmed
      → HasLogout FILE_LINES (moment_of at)
      (left_by at.state (line_effects at.state (session_at at key) (moment_of at)))
      → ConfirmsLogout at key
