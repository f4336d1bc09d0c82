-- What the EXEC means with the command files that it takes: what its lines do, typed ones and those of files.
use Rattle.std.specs.Prelude.{ℕ, ◌-◌, ◌==◌, ◌&&◌, Bool, true, false, if◌then◌else◌, List, [], ◌∷◌, ◌++◌, length, map, take, drop, slice_get, Option, None, Some}
use Rattle.std.specs.Option.{option_map_or}
use Rattle.cm_fields.specs.declared.code.Code.{Code}
use Rattle.cm_fields.specs.declared.code.Code.TheVariants.{BadLine, LineLimit, NotInTake, TakeDepth}
use Rattle.cm_io.specs.Fault.{next_count}
use Rattle.cm_blocks.specs.declared.field.Ending.{Ending}
use Rattle.cm_blocks.specs.declared.field.Ending.TheVariants as endings
use Rattle.cm_state.specs.Echo.{refusal}
use Rattle.cm_state.specs.SessionState.{SessionState}
use Rattle.cm_run.specs.Semantics.{Effect, Semantics}
use Rattle.cm_run.specs.Obey.{left_by}
use Rattle.cm_run.specs.declared.engine.TheConstants.{FILE_LINES}
use Rattle.ex_grammar.specs.ExecRules.{exec_meanings}
use Rattle.ex_grammar.specs.Graph.{exec_graph}
use Rattle.ex_store.specs.State.{catalogue_of}
use Rattle.ex_store.specs.declared.place.Place.{Place}
use Rattle.ex_commands.specs.Act.{act_of}
use Rattle.ex_commands.specs.Commands.Take.{bytes_of}
use Rattle.ex_commands.specs.declared.acted.Acted.{Acted}
use Rattle.ex_commands.specs.declared.acted.Acted.TheVariants as answers
use Rattle.ex_commands.specs.declared.command.Command.{Command}
use Rattle.ex_commands.specs.declared.command.Command.TheVariants as commands
use Rattle.ex_take.specs.Interpreter.{command_at, completion_answer, echo_by, effect_of, mode_of, pending_complete, pending_with, raw_answer, raw_by, subcommand_effects}
use Rattle.ex_take.specs.InterpreterState.{InterpreterState}
use Rattle.ex_take.specs.declared.pending.Pending.{Pending}
use Rattle.ex_take.specs.Lines.{file_lines, first_line, is_line}
use Rattle.ex_take.specs.ExecState.{ExecState}
use Rattle.ex_take.specs.declared.exec.TheConstants.{MOST_FILES}

-- an act of the EXEC's, which leaves the files that are open as they are
abbrev pub lifted : ExecState → Effect InterpreterState → Effect ExecState
lifted at effect = record {
  may_allocate = effect.may_allocate;
  state = record at { interpreter = effect.state };
  reply = effect.reply;
}

-- an act that shows nothing and takes no memory
abbrev pub silent : ExecState → Effect ExecState
silent at = record { may_allocate = false; state = at; reply = [] }

-- the files that go on: without those at the end of which no line is left
abbrev pub open_files : List (List (List ℕ)) → List (List (List ℕ))
open_files [] = []
open_files (file ∷ files) =
    let others = open_files files in if length others == 0 && length file == 0 then [] else file ∷ others

-- how many lines were taken, for the typed line whose files are open
abbrev pub taken_by : List (List (List ℕ)) → ℕ → ℕ
taken_by files taken = if length files == 0 then 0 else taken

abbrev pub closed : ExecState → ExecState
closed at =
    let files = open_files at.files in record at { files = files; taken = taken_by files at.taken }

-- a line was refused, and is counted; the command that waits is dropped, and all files are closed
abbrev pub stopped : Code → ExecState → ExecState
stopped code at = record {
  interpreter = record at.interpreter { pending = None };
  files = [];
  taken = 0;
  refused = next_count at.refused;
  stop = Some code;
}

-- a line of a file is refused: why is shown
abbrev pub refuses : Code → ExecState → Effect ExecState
refuses code at = record { may_allocate = false; state = stopped code at; reply = refusal code }

-- the file that is taken now
abbrev pub innermost : List (List (List ℕ)) → Option (List (List ℕ))
innermost files = slice_get files (length files - 1)

-- why the next line of a file is not even parsed: as many lines were taken as may be, or it cannot be
abbrev pub line_fault : ℕ → Bool → Option Code
line_fault taken is_parsable =
    if taken == FILE_LINES then Some LineLimit else (if is_parsable then None else Some BadLine)

abbrev pub next_fault : ℕ → Option (List (List ℕ)) → Option Code
next_fault taken None = None
next_fault taken (Some []) = None
next_fault taken (Some (line ∷ lines)) = line_fault taken (is_line line)

-- [refused-line] such a line is refused
abbrev pub fault_effects : ExecState → Option Code → List (Effect ExecState)
fault_effects at None = []
fault_effects at (Some code) = refuses code at ∷ []

unfoldable pub looks_ahead : ExecState → List (Effect ExecState)
looks_ahead at = fault_effects at (next_fault at.taken (innermost at.files))

-- files that are at their end are closed, and the next line is looked at
unfoldable pub closes : ExecState → List (Effect ExecState)
closes at = silent (closed at) ∷ looks_ahead (closed at)

-- after the end of its file a command that waited has acted; a refusal closes all files
unfoldable pub after_end : ExecState → Acted → List (Effect ExecState)
after_end at (answers.Refused code) = silent (stopped code at) ∷ []
after_end at answer = closes at

-- no command waits any more
abbrev pub unwaiting : ExecState → ExecState
unwaiting at = record at { interpreter = record at.interpreter { pending = None } }

-- at the end of a file a command that waits for subcommands acts, as after an empty line of them
abbrev pub completion_effects : ExecState → Pending → List (Effect ExecState)
completion_effects at pending =
    let effects = subcommand_effects at.interpreter pending in
    map (lifted at) effects
    ++ after_end (record at { interpreter = left_by at.interpreter effects }) (completion_answer at.interpreter pending)

abbrev pub end_effects : ExecState → Option Pending → List (Effect ExecState)
end_effects at None = closes at
end_effects at (Some pending) = completion_effects (unwaiting at) (pending_complete pending)

-- the file that is taken now is at its end
abbrev pub is_over : Option (List (List ℕ)) → Bool
is_over None = false
is_over (Some file) = length file == 0

-- after an act the files that are open go on
unfoldable pub settles : ExecState → List (Effect ExecState)
settles at = if is_over (innermost at.files) then end_effects at at.interpreter.pending else looks_ahead at

-- what follows an act that was answered so: a refusal closes all files, after LOGOUT there is nothing, and after each
-- other the files that are open go on
unfoldable pub follows : ExecState → Acted → List (Effect ExecState)
follows at (answers.Refused code) = silent (stopped code at) ∷ []
follows at answers.Logout = []
follows at answer = settles at

-- acts of the EXEC's, and what follows them
abbrev pub followed : ExecState → List (Effect InterpreterState) → Acted → List (Effect ExecState)
followed at effects answer =
    map (lifted at) effects ++ follows (record at { interpreter = left_by at.interpreter effects }) answer

abbrev pub acts : ExecState → ℕ → Command → List (Effect ExecState)
acts at moment command =
    followed at (effect_of at.interpreter moment command ∷ []) (act_of command moment at.interpreter.state).answer

-- a file is opened: its lines are those that it has now
abbrev pub opened : ExecState → Place → ExecState
opened at file = record at { files = at.files ++ file_lines (bytes_of file at.interpreter.state) ∷ []; stop = None }

abbrev pub opens : ExecState → Place → Effect ExecState
opens at file = record { may_allocate = true; state = opened at file; reply = [] }

-- so many files may be open
abbrev pub take_effects : ExecState → Place → List (Effect ExecState)
take_effects at file =
    if length at.files == MOST_FILES then refuses TakeDepth at ∷ [] else opens at file ∷ settles (opened at file)

-- no file is typed in while one is open
abbrev pub typing_effects : ExecState → ℕ → Place → List (Effect ExecState)
typing_effects at moment to =
    if length at.files == 0 then acts at moment (commands.CopyTty to) else refuses NotInTake at ∷ []

-- what a line commands is done
unfoldable pub command_effects : ExecState → ℕ → Command → List (Effect ExecState)
command_effects at moment (commands.Take file) = take_effects at file
command_effects at moment (commands.CopyTty to) = typing_effects at moment to
command_effects at moment command = acts at moment command

-- subcommands are added to a command that waited
abbrev pub pending_effects : ExecState → SessionState → Pending → List (Effect ExecState)
pending_effects at session pending =
    followed at (subcommand_effects at.interpreter (pending_with session pending))
    (completion_answer at.interpreter (pending_with session pending))

-- a line commands itself, or adds subcommands to the command that waits for them
abbrev pub line_by : ExecState → SessionState → ℕ → Option Pending → List (Effect ExecState)
line_by at session moment None = command_effects at moment (command_at at.interpreter session)
line_by at session moment (Some pending) = pending_effects (unwaiting at) session pending

unfoldable pub line_effects : ExecState → SessionState → ℕ → List (Effect ExecState)
line_effects at session moment = line_by at session moment at.interpreter.pending

-- the next line is taken off its file
abbrev pub passed_in : List (List (List ℕ)) → List (List (List ℕ))
passed_in files =
    take (length files - 1) files
    ++ option_map_or (λ (file : List (List ℕ)). drop 1 file ∷ []) (innermost files) []

abbrev pub passed : ExecState → ExecState
passed at = record at { files = passed_in at.files; taken = next_count at.taken }

-- a line of a file does what a typed one does; where its parse ends in a fault it is refused. That of a whole line is
-- never open: the files would go on
abbrev pub ending_effects : ExecState → SessionState → ℕ → Ending → List (Effect ExecState)
ending_effects at session moment endings.Done = line_effects at session moment
ending_effects at session moment (endings.Fault fault) = refuses fault.code at ∷ []
ending_effects at session moment (endings.Open place) = settles at

abbrev pub file_line_effects : ExecState → SessionState → ℕ → List (Effect ExecState)
file_line_effects at session moment = silent (passed at) ∷ ending_effects (passed at) session moment session.ending

-- the next line, where it can be parsed
abbrev pub line_in : Option (List (List ℕ)) → Option (List ℕ)
line_in None = None
line_in (Some lines) = first_line lines

-- a key of a file that is typed in; that the file is refused is counted
abbrev pub counted : ExecState → ExecState
counted at = record at { refused = next_count at.refused }

abbrev pub counts : ExecState → Acted → List (Effect ExecState)
counts at (answers.Refused code) = silent (counted at) ∷ []
counts at answer = []

abbrev pub counted_by : ExecState → Acted → ExecState
counted_by at (answers.Refused code) = counted at
counted_by at answer = at

abbrev pub raw_effects : ExecState → ℕ → List (Effect ExecState)
raw_effects at key =
    let effects = raw_by at.interpreter key at.interpreter.typing in
    map (lifted at) effects
    ++ counts (record at { interpreter = left_by at.interpreter effects })
    (raw_answer at.interpreter key at.interpreter.typing)

-- a typed line that is refused is counted, and no more; one that is given up drops the command that waits
abbrev pub exec_semantics : Semantics ExecState
exec_semantics = record {
  graph_of = λ at. exec_graph;
  rules_of = λ state. exec_meanings;
  catalogue_of = λ at. catalogue_of at.interpreter.state;
  mode_of = λ at. mode_of at.interpreter;
  line_effects = line_effects;
  refusal = counted;
  abandonment = unwaiting;
  raw_echo = λ at key. echo_by key at.interpreter.typing;
  raw_effects = raw_effects;
  file_line = λ at. line_in (innermost at.files);
  file_line_effects = file_line_effects;
}
