-- INFORMATION: what there is, is told.
use Rattle.std.specs.Prelude.{ℕ, ◌==◌, nat_lt, Bool, ◌&&◌, ℤ, if◌then◌else◌, List, [], ◌∷◌, ◌++◌, length, Option, Some, None}
use Rattle.std.specs.Fmt.{decimal}
use Rattle.std.specs.List.{flat_map}
use Rattle.cm_text.specs.ScreenBytes.{end_of_line}
use Rattle.cm_dates.specs.DayText.{day_text}
use Rattle.cm_blocks.specs.declared.function.Role.TheVariants as roles
use Rattle.cm_state.specs.Roles.{field_of}
use Rattle.ex_grammar.specs.declared.code.TheConstants.{DIRECTORY_TOPIC, LOGICAL_NAMES, OUTPUT_REQUESTS, VERSION}
use Rattle.ex_store.specs.declared.directory.Definition.{Definition}
use Rattle.ex_store.specs.declared.queue.QueueEntry.{QueueEntry}
use Rattle.ex_store.specs.declared.limits.TheConstants.{FORMS}
use Rattle.ex_store.specs.Forms.{form_text}
use Rattle.ex_store.specs.Rows.{pages_in}
use Rattle.ex_store.specs.State.{State, retention_of}
use Rattle.ex_store.specs.WellFormed.{is_day}
use Rattle.ex_commands.specs.declared.command.Command.{Command}
use Rattle.ex_commands.specs.declared.command.Command.TheVariants as commands
use Rattle.ex_commands.specs.Effect.{Act, does}
use Rattle.ex_commands.specs.Line.{Line, code_in}
use Rattle.ex_commands.specs.Replies.{directory_text, full_text}
use Rattle.ex_commands.specs.Texts.{after_mark, copies_mark, forms_mark, job_mark, kept, note_mark, of_structure, pages_had, quote, space, stands_for, version}

abbrev pub information_of : Line → Command
information_of line = commands.Information (code_in (field_of roles.What line.fields))

-- the connected directory, ` PS:<DIRECTORY>`, ` Generations to keep: COUNT` and ` Pages: COUNT`
unfoldable pub directory_line : List ℕ → List ℕ
directory_line directory = of_structure ++ directory_text directory ++ end_of_line

unfoldable pub retention_line : ℕ → List ℕ
retention_line count = kept ++ decimal count ++ end_of_line

unfoldable pub pages_line : ℕ → List ℕ
pages_line pages = pages_had ++ decimal pages ++ end_of_line

unfoldable pub directory_lines : State → List ℕ
directory_lines state =
    directory_line state.connected ++ retention_line (retention_of state.connected state.directories)
    ++ pages_line (pages_in state.connected state.rows)

-- a logical name, ` NAME: => PS:<DIRECTORY>`
unfoldable pub definition_line : Definition → List ℕ
definition_line entry = space ++ entry.name ++ stands_for ++ directory_text entry.directory ++ end_of_line

-- the day before which it is not printed, ` /AFTER:DAY`, where there is one
unfoldable pub after_text : Option ℤ → List ℕ
after_text None = []
after_text (Some day) = after_mark ++ day_text day

-- each quote twice
unfoldable pub quoted_byte : ℕ → List ℕ
quoted_byte byte = if byte == 34 then 34 ∷ 34 ∷ [] else byte ∷ []

-- what is beside it, ` /NOTE:"TEXT"`, where there is something
unfoldable pub note_text : List ℕ → List ℕ
note_text note = if length note == 0 then [] else note_mark ++ flat_map quoted_byte note ++ quote

-- its form has a name, and its day a text
abbrev pub is_shown : QueueEntry → Bool
is_shown entry = nat_lt entry.form FORMS && is_day entry.after

-- what is asked for with a file
unfoldable pub wishes_text : QueueEntry → List ℕ
wishes_text entry =
    copies_mark ++ decimal entry.copies ++ forms_mark ++ form_text entry.form ++ job_mark ++ entry.job
    ++ after_text entry.after ++ note_text entry.note

-- an entry of the queue, ` FILE /COPIES:COUNT /FORMS:FORM /JOBNAME:JOB`, with a day and a note where they are given
unfoldable pub entry_line : QueueEntry → List ℕ
entry_line entry = space ++ full_text entry.file ++ wishes_text entry ++ end_of_line

unfoldable pub version_line : List ℕ
version_line = version ++ end_of_line

-- what is told about a topic
abbrev pub topic_text : ℕ → State → List ℕ
topic_text what state =
    if what == DIRECTORY_TOPIC then directory_lines state
    else (if what == LOGICAL_NAMES then flat_map definition_line state.logical
    else (if what == OUTPUT_REQUESTS then flat_map entry_line state.queue
    else (if what == VERSION then version_line else [])))

abbrev pub tells : ℕ → State → Act
tells what state = does (topic_text what state) state
