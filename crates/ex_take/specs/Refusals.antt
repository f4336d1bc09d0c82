-- Why a line is refused, and what is left then.
use Rattle.std.specs.Prelude.{ℕ, ◌==◌, if◌then◌else◌, length, Option, None, Some}
use Rattle.cm_blocks.specs.declared.field.Ending.{Ending}
use Rattle.cm_blocks.specs.declared.field.Ending.TheVariants as endings
use Rattle.cm_fields.specs.declared.code.Code.{Code}
use Rattle.cm_fields.specs.declared.code.Code.TheVariants.{NotInTake, TakeDepth}
use Rattle.cm_state.specs.SessionState.{SessionState}
use Rattle.ex_commands.specs.Act.{act_of}
use Rattle.ex_commands.specs.declared.acted.Acted.{Acted}
use Rattle.ex_commands.specs.declared.acted.Acted.TheVariants as answers
use Rattle.ex_commands.specs.declared.command.Command.{Command}
use Rattle.ex_commands.specs.declared.command.Command.TheVariants as commands
use Rattle.ex_take.specs.Exec.{counted, passed, stopped}
use Rattle.ex_take.specs.ExecState.{ExecState}
use Rattle.ex_take.specs.Interpreter.{command_at, completion_answer, pending_with}
use Rattle.ex_take.specs.declared.exec.TheConstants.{MOST_FILES}
use Rattle.ex_take.specs.declared.pending.Pending.{Pending}

-- the code with which an act is refused
abbrev pub act_code : Acted → Option Code
act_code (answers.Refused code) = Some code
act_code answer = None

-- and a command: TAKE where as many files are open as may be, COPY TTY: where one is, and each by its act
abbrev pub command_code : ExecState → ℕ → Command → Option Code
command_code at moment (commands.Take file) = if length at.files == MOST_FILES then Some TakeDepth else None
command_code at moment (commands.CopyTty to) =
    if length at.files == 0 then act_code (act_of (commands.CopyTty to) moment at.interpreter.state).answer
    else Some NotInTake
command_code at moment command = act_code (act_of command moment at.interpreter.state).answer

-- and a line whose parse is done: by what it commands, or by the act of the command that waited for it
abbrev pub code_by : ExecState → SessionState → ℕ → Option Pending → Option Code
code_by at session moment None = command_code at moment (command_at at.interpreter session)
code_by at session moment (Some pending) = act_code (completion_answer at.interpreter (pending_with session pending))

abbrev pub line_code : ExecState → SessionState → ℕ → Option Code
line_code at session moment = code_by at session moment at.interpreter.pending

-- and a line of a command file, also by its parse
abbrev pub ending_code : ExecState → SessionState → ℕ → Ending → Option Code
ending_code at session moment endings.Done = line_code at session moment
ending_code at session moment (endings.Fault fault) = Some fault.code
ending_code at session moment (endings.Open place) = None

abbrev pub file_line_code : ExecState → SessionState → ℕ → Option Code
file_line_code at session moment = ending_code (passed at) session moment session.ending

-- what is left where a line may be refused
abbrev pub stopped_by : Option Code → ExecState → ExecState
stopped_by None at = at
stopped_by (Some code) at = stopped code at

-- the file that was typed in is refused: it is dropped, and counted
abbrev pub unwritten : ExecState → ExecState
unwritten at = counted (record at { interpreter = record at.interpreter { typing = None } })
