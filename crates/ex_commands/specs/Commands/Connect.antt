-- CONNECT: a directory is connected.
use Rattle.std.specs.Prelude.{List, ℕ, []}
use Rattle.cm_blocks.specs.declared.function.Role.TheVariants as roles
use Rattle.cm_state.specs.Roles.{field_of}
use Rattle.ex_store.specs.State.{State}
use Rattle.ex_commands.specs.declared.command.Command.{Command}
use Rattle.ex_commands.specs.declared.command.Command.TheVariants as commands
use Rattle.ex_commands.specs.Effect.{Act, does}
use Rattle.ex_commands.specs.Line.{Line, directory_in, on}

abbrev pub connect_of : Line → Command
connect_of line = on commands.Connect (directory_in line (field_of roles.Files line.fields))

abbrev pub connects : List ℕ → State → Act
connects directory state = does [] (record state { connected = directory })
