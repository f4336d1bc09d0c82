-- What the EXEC goes on from, with the command files that it takes.
use Rattle.std.specs.Prelude.{ℕ, List, [], Option, None}
use Rattle.cm_fields.specs.declared.code.Code.{Code}
use Rattle.ex_store.specs.State.{State}
use Rattle.ex_take.specs.InterpreterState.{InterpreterState, interpreter_start}

-- the EXEC; the files that are open, each as the lines of it that are left, the one that is taken now at the end; how
-- many of their lines were taken; how many lines were refused; and why the last files were closed before their ends
pub record ExecState : Type 0 where
  pub interpreter : InterpreterState
  pub files : List (List (List ℕ))
  pub taken : ℕ
  pub refused : ℕ
  pub stop : Option Code

-- a run begins at a typed line, in this state
abbrev pub exec_start : State → ExecState
exec_start state = record { interpreter = interpreter_start state; files = []; taken = 0; refused = 0; stop = None }

-- [error-flag] why the last files were closed is forgotten
abbrev pub forgiven : ExecState → ExecState
forgiven at = record at { stop = None }
