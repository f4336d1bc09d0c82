-- TAKE: the lines of a file are taken as commands.
use Rattle.std.specs.Prelude.{ℕ, List, [], ◌∷◌}
use Rattle.cm_blocks.specs.declared.function.Role.TheVariants as roles
use Rattle.cm_state.specs.Roles.{field_of}
use Rattle.ex_store.specs.declared.place.Place.{Place}
use Rattle.ex_store.specs.declared.row.Row.{Row}
use Rattle.ex_store.specs.Plan.{sources}
use Rattle.ex_store.specs.State.{State}
use Rattle.ex_commands.specs.declared.acted.Acted.TheVariants as answers
use Rattle.ex_commands.specs.declared.command.Command.{Command}
use Rattle.ex_commands.specs.declared.command.Command.TheVariants as commands
use Rattle.ex_commands.specs.Effect.{Act}
use Rattle.ex_commands.specs.Line.{Line, on, place_in}

abbrev pub take_of : Line → Command
take_of line = on commands.Take (place_in line (field_of roles.Files line.fields))

-- its lines are taken next; nothing is shown, and nothing changes
abbrev pub takes : State → Act
takes state = record { answer = answers.Take; reply = []; state = state }

-- what the first of some files holds, and nothing where there is none
abbrev pub first_bytes : List Row → List ℕ
first_bytes [] = []
first_bytes (row ∷ more) = row.file.bytes

-- what the first of the files that a place means holds
abbrev pub bytes_of : Place → State → List ℕ
bytes_of file state = first_bytes (sources file state)
