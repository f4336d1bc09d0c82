-- SET FILE GENERATION-RETENTION-COUNT: files are told how many generations they keep.
use Rattle.std.specs.Prelude.{ℕ}
use Rattle.cm_blocks.specs.declared.function.Role.TheVariants as roles
use Rattle.cm_state.specs.Roles.{field_of}
use Rattle.ex_generations.specs.declared.file.Remark.TheVariants.{Keep}
use Rattle.ex_store.specs.declared.place.Place.{Place}
use Rattle.ex_store.specs.State.{State}
use Rattle.ex_commands.specs.declared.command.Command.{Command}
use Rattle.ex_commands.specs.declared.command.Command.TheVariants as commands
use Rattle.ex_commands.specs.Effect.{Act, changes}
use Rattle.ex_commands.specs.Line.{Line, count_in, on, place_in}

abbrev pub set_of : Line → Command
set_of line =
    on (λ files. on (commands.Set files) (count_in (field_of roles.Value line.fields)))
    (place_in line (field_of roles.Files line.fields))

-- no file is marked by that
abbrev pub sets : Place → ℕ → State → Act
sets files keep state = changes (Keep keep) files state
