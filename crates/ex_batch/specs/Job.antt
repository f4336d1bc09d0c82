-- What a line of the EXEC's does where it is in a control file.
use Rattle.std.specs.Prelude.{ℕ, Bool, true, false, if◌then◌else◌, List, [], ◌∷◌, Option, None, Some}
use Rattle.cm_fields.specs.declared.code.Code.{Code}
use Rattle.cm_fields.specs.declared.code.Code.TheVariants.{NoSubcommands, NotInTake}
use Rattle.cm_blocks.specs.declared.field.Ending.{Ending}
use Rattle.cm_blocks.specs.declared.field.Ending.TheVariants as endings
use Rattle.cm_state.specs.SessionState.{SessionState}
use Rattle.cm_run.specs.Semantics.{Effect, Semantics}
use Rattle.ex_commands.specs.Command.{is_pending}
use Rattle.ex_commands.specs.declared.command.Command.{Command}
use Rattle.ex_commands.specs.declared.command.Command.TheVariants as commands
use Rattle.ex_take.specs.Exec.{command_effects, exec_semantics, file_line_effects, refuses}
use Rattle.ex_take.specs.ExecState.{ExecState}
use Rattle.ex_take.specs.Interpreter.{command_at}
use Rattle.ex_take.specs.Taking.{is_at_rest}

-- why a command may not be there: a file would be typed in, or it would wait for subcommands
abbrev pub waiting_bar : Bool → Option Code
waiting_bar true = Some NoSubcommands
waiting_bar false = None

unfoldable pub bar_of : Command → Option Code
bar_of (commands.CopyTty to) = Some NotInTake
bar_of command = waiting_bar (is_pending command)

-- so it is refused, and each other is done
abbrev pub unless_barred : ExecState → ℕ → Command → Option Code → List (Effect ExecState)
unless_barred at moment command (Some code) = refuses code at ∷ []
unless_barred at moment command None = command_effects at moment command

abbrev pub job_effects : ExecState → ℕ → Command → List (Effect ExecState)
job_effects at moment command = unless_barred at moment command (bar_of command)

-- a line whose parse ends in a fault is refused. That of a whole line is never open: nothing would be done
unfoldable pub order_effects : ExecState → SessionState → ℕ → Ending → List (Effect ExecState)
order_effects at session moment endings.Done = job_effects at moment (command_at at.interpreter session)
order_effects at session moment (endings.Fault fault) = refuses fault.code at ∷ []
order_effects at session moment (endings.Open place) = []

-- where nothing is left to be done a line is of the control file; each other is of a command file that it takes
unfoldable pub job_line_effects : ExecState → SessionState → ℕ → List (Effect ExecState)
job_line_effects at session moment =
    if is_at_rest at then order_effects at session moment session.ending else file_line_effects at session moment

abbrev pub job_semantics : Semantics ExecState
job_semantics = record exec_semantics { file_line_effects = job_line_effects }
