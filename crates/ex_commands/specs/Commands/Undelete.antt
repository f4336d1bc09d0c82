-- UNDELETE: the mark of files is taken away.
use Rattle.std.specs.Prelude.{false}
use Rattle.cm_blocks.specs.declared.function.Role.TheVariants as roles
use Rattle.cm_state.specs.Roles.{field_of}
use Rattle.ex_generations.specs.declared.file.Remark.TheVariants.{Deleted}
use Rattle.ex_store.specs.declared.place.Place.{Place}
use Rattle.ex_store.specs.State.{State}
use Rattle.ex_commands.specs.declared.command.Command.{Command}
use Rattle.ex_commands.specs.declared.command.Command.TheVariants as commands
use Rattle.ex_commands.specs.Effect.{Act, changes}
use Rattle.ex_commands.specs.Line.{Line, on, place_in}

abbrev pub undelete_of : Line → Command
undelete_of line = on commands.Undelete (place_in line (field_of roles.Files line.fields))

abbrev pub undeletes : Place → State → Act
undeletes files state = changes (Deleted false) files state
