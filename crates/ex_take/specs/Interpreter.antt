-- What the EXEC does at its lines, main lines and those of subcommands, and at the keys of a file that is typed in.
use Rattle.std.specs.Prelude.{ℕ, ◌&&◌, not, is_some, Bool, true, false, if◌then◌else◌, List, [], ◌∷◌, Option, None, Some, option_map}
use Rattle.cm_state.specs.SessionState.{SessionState, text_of}
use Rattle.cm_state.specs.declared.prompt.Prompt.TheVariants.{Main, Sub}
use Rattle.cm_run.specs.Semantics.{Effect}
use Rattle.cm_run.specs.declared.mode.Mode.{Mode}
use Rattle.cm_run.specs.declared.mode.Mode.TheVariants as mode
use Rattle.ex_grammar.specs.declared.node.TheConstants.{COMMANDS}
use Rattle.ex_grammar.specs.Graph.{exec_graph}
use Rattle.ex_store.specs.State.{catalogue_of}
use Rattle.ex_store.specs.declared.place.Place.{Place}
use Rattle.ex_commands.specs.Act.{Act, act_of, writes}
use Rattle.ex_commands.specs.Answer.{may_allocate}
use Rattle.ex_commands.specs.Command.{added, command_of, complete, is_pending, subcommand_node}
use Rattle.ex_commands.specs.FileTyping.{bytes_after, echo_of, echo_text, turn_of}
use Rattle.ex_commands.specs.declared.acted.Acted.{Acted}
use Rattle.ex_commands.specs.declared.acted.Acted.TheVariants as answers
use Rattle.ex_commands.specs.declared.command.Command.{Command}
use Rattle.ex_commands.specs.declared.command.Command.TheVariants as commands
use Rattle.ex_commands.specs.declared.data.DataTurn.{DataTurn}
use Rattle.ex_commands.specs.declared.data.DataTurn.TheVariants as turns
use Rattle.ex_take.specs.InterpreterState.{InterpreterState}
use Rattle.ex_take.specs.declared.pending.Pending.{Pending}
use Rattle.ex_take.specs.declared.typing.Typing.{Typing}

-- a line is of subcommands where a command waits for them
abbrev pub line_mode : Option Pending → Mode
line_mode (Some pending) = mode.Line (subcommand_node pending.command) Sub false
line_mode None = mode.Line COMMANDS Main true

-- after LOGOUT there are no more keys; those of a file that is typed in are raw; each other is for a line
abbrev pub mode_by : Bool → Option Typing → Option Pending → Mode
mode_by true typing pending = mode.Ended
mode_by false (Some typing) pending = mode.Raw
mode_by false None pending = line_mode pending

abbrev pub mode_of : InterpreterState → Mode
mode_of interpreter = mode_by interpreter.ended interpreter.typing interpreter.pending

-- no command waits, and no file is typed in
abbrev pub is_free : InterpreterState → Bool
is_free interpreter = not (is_some interpreter.pending) && not (is_some interpreter.typing)

-- the command of a line that is confirmed
abbrev pub command_at : InterpreterState → SessionState → Command
command_at interpreter session =
    command_of (record {
      graph = exec_graph;
      catalogue = catalogue_of interpreter.state;
      text = text_of session;
      fields = session.fields;
    })

-- where a file that is typed in is to stand
abbrev pub target_of : Command → Option Place
target_of (commands.CopyTty to) = Some to
target_of command = None

-- nothing of it is typed yet
abbrev pub typing_to : ℕ → Place → Typing
typing_to moment to = record { to = to; moment = moment; typed = [] }

-- what the EXEC becomes by this answer: after COPY TTY: a file is typed in, a command with subcommands waits for them,
-- and LOGOUT ends the run; the lines of a file are not taken here
unfoldable pub becomes : InterpreterState → ℕ → Command → Acted → InterpreterState
becomes interpreter moment command answers.Data =
    record interpreter { typing = option_map (typing_to moment) (target_of command) }
becomes interpreter moment command answers.Pending =
    record interpreter { pending = Some (record { command = command; moment = moment }) }
becomes interpreter moment command answers.Logout = record interpreter { ended = true }
becomes interpreter moment command answers.Ok = interpreter
becomes interpreter moment command answers.Take = interpreter
becomes interpreter moment command (answers.Refused code) = interpreter
becomes interpreter moment command answers.NoMemory = interpreter
becomes interpreter moment command answers.Failed = interpreter

-- the commands for which memory may run out: those that take it, COPY TTY: for what is typed, and TAKE for a file
abbrev pub allocates : Command → Bool
allocates (commands.CopyTty to) = true
allocates (commands.Take file) = true
allocates command = may_allocate command

-- what a command does at a moment
abbrev pub effect_by : InterpreterState → ℕ → Command → Act → Effect InterpreterState
effect_by interpreter moment command act = record {
  may_allocate = allocates command;
  state = record (becomes interpreter moment command act.answer) { state = act.state };
  reply = act.reply;
}

abbrev pub effect_of : InterpreterState → ℕ → Command → Effect InterpreterState
effect_of interpreter moment command = effect_by interpreter moment command (act_of command moment interpreter.state)

-- an act that shows nothing and takes no memory
abbrev pub silent : InterpreterState → Effect InterpreterState
silent interpreter = record { may_allocate = false; state = interpreter; reply = [] }

-- after its last subcommand a command acts, at the moment of its main line
abbrev pub completion : InterpreterState → Pending → List (Effect InterpreterState)
completion interpreter pending =
    if is_pending pending.command then []
    else effect_of (record interpreter { pending = None }) pending.moment pending.command ∷ []

-- a line of subcommands adds to the command that waits; an empty one ends them
abbrev pub pending_with : SessionState → Pending → Pending
pending_with session pending = record pending { command = added session.fields pending.command }

-- an end of subcommands without such a line
abbrev pub pending_complete : Pending → Pending
pending_complete pending = record pending { command = complete pending.command }

-- what is answered then
abbrev pub completion_answer : InterpreterState → Pending → Acted
completion_answer interpreter pending =
    if is_pending pending.command then answers.Pending
    else (act_of pending.command pending.moment interpreter.state).answer

abbrev pub subcommand_effects : InterpreterState → Pending → List (Effect InterpreterState)
subcommand_effects interpreter pending =
    silent (record interpreter { pending = Some pending }) ∷ completion interpreter pending

-- what was typed in is written, at the moment of its line
abbrev pub written_by : InterpreterState → Act → Effect InterpreterState
written_by interpreter act =
    record { may_allocate = true; state = record interpreter { state = act.state }; reply = act.reply }

abbrev pub written : InterpreterState → Typing → Effect InterpreterState
written interpreter typing = written_by interpreter (writes typing.to typing.typed typing.moment interpreter.state)

-- what a key of a file that is typed in does, by its outcome: the typing goes on, or it ends, and with control-Z
-- the file is written
unfoldable pub typed_effects : InterpreterState → Typing → DataTurn → List (Effect InterpreterState)
typed_effects interpreter typing turns.More = silent (record interpreter { typing = Some typing }) ∷ []
typed_effects interpreter typing turns.Write =
    silent (record interpreter { typing = None }) ∷ written (record interpreter { typing = None }) typing ∷ []
typed_effects interpreter typing turns.Dropped = silent (record interpreter { typing = None }) ∷ []

abbrev pub raw_by : InterpreterState → ℕ → Option Typing → List (Effect InterpreterState)
raw_by interpreter key None = []
raw_by interpreter key (Some typing) =
    typed_effects interpreter (record typing { typed = bytes_after typing.typed key })
    (turn_of (echo_of typing.typed key))

-- and what is answered: that of the file which is written
abbrev pub typed_answer : InterpreterState → Typing → DataTurn → Acted
typed_answer interpreter typing turns.More = answers.Ok
typed_answer interpreter typing turns.Write = (writes typing.to typing.typed typing.moment interpreter.state).answer
typed_answer interpreter typing turns.Dropped = answers.Ok

abbrev pub raw_answer : InterpreterState → ℕ → Option Typing → Acted
raw_answer interpreter key None = answers.Ok
raw_answer interpreter key (Some typing) =
    typed_answer interpreter (record typing { typed = bytes_after typing.typed key })
    (turn_of (echo_of typing.typed key))

-- what it shows first
abbrev pub echo_by : ℕ → Option Typing → List ℕ
echo_by key None = []
echo_by key (Some typing) = echo_text (echo_of typing.typed key)
