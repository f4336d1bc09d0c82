-- EXPUNGE: the files of a directory that are marked as deleted are removed.
use Rattle.std.specs.Prelude.{ℕ, List, ◌++◌, Option, unwrap_or}
use Rattle.std.specs.Fmt.{decimal}
use Rattle.cm_text.specs.ScreenBytes.{end_of_line}
use Rattle.cm_blocks.specs.declared.function.Role.TheVariants as roles
use Rattle.cm_state.specs.Roles.{field_of}
use Rattle.ex_store.specs.Rows.{pages_marked}
use Rattle.ex_store.specs.State.{State}
use Rattle.ex_commands.specs.declared.command.Command.{Command}
use Rattle.ex_commands.specs.declared.command.Command.TheVariants as commands
use Rattle.ex_commands.specs.Effect.{Act, does, without_marked}
use Rattle.ex_commands.specs.Line.{Line, directory_in}
use Rattle.ex_commands.specs.Replies.{directory_text}
use Rattle.ex_commands.specs.Texts.{pages_freed, right_bracket, space}

abbrev pub expunge_of : Line → Command
expunge_of line = commands.Expunge (directory_in line (field_of roles.Files line.fields))

-- the pages that were freed in a directory, ` <DIRECTORY> [Pages freed: COUNT]`
unfoldable pub freed_line : List ℕ → ℕ → List ℕ
freed_line directory pages =
    space ++ directory_text directory ++ pages_freed ++ decimal pages ++ right_bracket ++ end_of_line

abbrev pub expunges : List ℕ → State → Act
expunges directory state =
    does (freed_line directory (pages_marked directory state.rows)) (without_marked directory state)

-- the connected directory where none is said
abbrev pub expunges_or_connected : Option (List ℕ) → State → Act
expunges_or_connected directory state = expunges (unwrap_or directory state.connected) state
