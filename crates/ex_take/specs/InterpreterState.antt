-- What the EXEC goes on from.
use Rattle.std.specs.Prelude.{Bool, false, Option, None}
use Rattle.ex_store.specs.State.{State}
use Rattle.ex_take.specs.declared.pending.Pending.{Pending}
use Rattle.ex_take.specs.declared.typing.Typing.{Typing}

-- the state of the file machine, the command that waits for its subcommands, the file that is being typed in, and
-- whether LOGOUT has acted
pub record InterpreterState : Type 0 where
  pub state : State
  pub pending : Option Pending
  pub typing : Option Typing
  pub ended : Bool

-- a run begins at a line, in this state
abbrev pub interpreter_start : State → InterpreterState
interpreter_start state = record { state = state; pending = None; typing = None; ended = false }
