-- APPEND: the bytes of files are put after those of one file.
use Rattle.std.specs.Prelude.{ℕ}
use Rattle.cm_blocks.specs.declared.function.Role.TheVariants as roles
use Rattle.cm_state.specs.Roles.{field_of}
use Rattle.ex_store.specs.declared.place.Place.{Place}
use Rattle.ex_store.specs.declared.plan.Plan.TheVariants as plans
use Rattle.ex_store.specs.Plan.{planned}
use Rattle.ex_store.specs.State.{State}
use Rattle.ex_commands.specs.declared.command.Command.{Command}
use Rattle.ex_commands.specs.declared.command.Command.TheVariants as commands
use Rattle.ex_commands.specs.declared.pairs.Origin.TheVariants.{Files}
use Rattle.ex_commands.specs.Effect.{Act, plays}
use Rattle.ex_commands.specs.Line.{Line, between, place_in}

abbrev pub append_of : Line → Command
append_of line =
    between commands.Append (place_in line (field_of roles.Source line.fields))
    (place_in line (field_of roles.Target line.fields))

abbrev pub appends : Place → Place → ℕ → State → Act
appends from to moment state = plays Files (planned (plans.Append from to) moment state) state
