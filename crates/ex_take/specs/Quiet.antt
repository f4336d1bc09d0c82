-- How the EXEC is between two keys.
use Rattle.std.specs.Prelude.{◌≡◌, true, false, [], Option, None, Some}
use Rattle.ex_commands.specs.Command.{is_pending}
use Rattle.ex_take.specs.ExecState.{ExecState}
use Rattle.ex_take.specs.declared.pending.Pending.{Pending}

-- a command waits only for its subcommands
abbrev pub Waits : Option Pending → Type 0
Waits None = Unit {0}
Waits (Some pending) = is_pending pending.command ≡ true

-- no command file is open, and no line of one is counted
pub record IsQuiet (at : ExecState) : Type 0 where
  pub files : at.files ≡ []
  pub taken : at.taken ≡ 0
  pub waits : Waits at.interpreter.pending

-- or LOGOUT has acted, after which there are no keys
abbrev pub IsQuietUnlessEnded : ExecState → Type 0
IsQuietUnlessEnded at = at.interpreter.ended ≡ false → IsQuiet at
