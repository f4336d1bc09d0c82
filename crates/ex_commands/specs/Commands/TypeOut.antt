-- TYPE: what files hold is shown, and they are read by that.
use Rattle.std.specs.Prelude.{ℕ}
use Rattle.std.specs.List.{flat_map}
use Rattle.cm_blocks.specs.declared.function.Role.TheVariants as roles
use Rattle.cm_state.specs.Roles.{field_of}
use Rattle.ex_store.specs.declared.place.Place.{Place}
use Rattle.ex_store.specs.Copying.{moment_of}
use Rattle.ex_store.specs.Plan.{sources}
use Rattle.ex_store.specs.Selection.{touched}
use Rattle.ex_store.specs.State.{State}
use Rattle.ex_commands.specs.declared.command.Command.{Command}
use Rattle.ex_commands.specs.declared.command.Command.TheVariants as commands
use Rattle.ex_commands.specs.declared.lines.Lines.TheVariants.{Held}
use Rattle.ex_commands.specs.Effect.{Act, does}
use Rattle.ex_commands.specs.Line.{Line, on, place_in}
use Rattle.ex_commands.specs.Replies.{line_of}

abbrev pub type_of : Line → Command
type_of line = on commands.TypeOut (place_in line (field_of roles.Files line.fields))

abbrev pub types_out : Place → ℕ → State → Act
types_out files moment state =
    does (flat_map (line_of Held) (sources files state))
    (record state { rows = touched (moment_of moment) files state })
