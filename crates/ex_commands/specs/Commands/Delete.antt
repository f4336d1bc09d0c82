-- DELETE: files are marked as deleted.
use Rattle.std.specs.Prelude.{true}
use Rattle.cm_blocks.specs.declared.function.Role.TheVariants as roles
use Rattle.cm_state.specs.Roles.{field_of}
use Rattle.ex_generations.specs.declared.file.Remark.TheVariants.{Deleted}
use Rattle.ex_store.specs.declared.place.Place.{Place}
use Rattle.ex_store.specs.State.{State}
use Rattle.ex_commands.specs.declared.command.Command.{Command}
use Rattle.ex_commands.specs.declared.command.Command.TheVariants as commands
use Rattle.ex_commands.specs.Effect.{Act, changes}
use Rattle.ex_commands.specs.Line.{Line, on, place_in}

abbrev pub delete_of : Line → Command
delete_of line = on commands.Delete (place_in line (field_of roles.Files line.fields))

abbrev pub deletes : Place → State → Act
deletes files state = changes (Deleted true) files state
