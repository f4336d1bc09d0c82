-- COPY: files are copied, or a file is typed in.
use Rattle.std.specs.Prelude.{ℕ, Bool, true, false, List, [], if◌then◌else◌, Option, Some, None}
use Rattle.cm_fields.specs.declared.code.Code.TheVariants.{NameNeeded}
use Rattle.cm_fields.specs.declared.value.Value.{Value}
use Rattle.cm_fields.specs.declared.value.Value.TheVariants as values
use Rattle.cm_blocks.specs.declared.function.Role.TheVariants as roles
use Rattle.cm_blocks.specs.FieldView.{FieldView}
use Rattle.cm_state.specs.Roles.{field_of}
use Rattle.ex_store.specs.declared.place.Place.{Place}
use Rattle.ex_store.specs.declared.plan.Plan.TheVariants as plans
use Rattle.ex_store.specs.Copying.{lacks_name}
use Rattle.ex_store.specs.Plan.{planned}
use Rattle.ex_store.specs.State.{State}
use Rattle.ex_commands.specs.declared.acted.Acted.TheVariants as answers
use Rattle.ex_commands.specs.declared.command.Command.{Command}
use Rattle.ex_commands.specs.declared.command.Command.TheVariants as commands
use Rattle.ex_commands.specs.declared.pairs.Origin.TheVariants.{Files, Terminal}
use Rattle.ex_commands.specs.Effect.{Act, plays, refuses}
use Rattle.ex_commands.specs.Line.{Line, between, on, place_in}

abbrev pub is_token : Value → Bool
is_token values.Token = true
is_token value = false

-- from the terminal, or from files
abbrev pub copies : Line → Option FieldView → Option Place → Command
copies line None to = commands.Empty
copies line (Some from) to =
    if is_token from.value then on commands.CopyTty to
    else between commands.Copy (place_in line (Some from)) to

abbrev pub copy_of : Line → Command
copy_of line =
    copies line (field_of roles.Source line.fields) (place_in line (field_of roles.Target line.fields))

abbrev pub copies_files : Place → Place → ℕ → State → Act
copies_files from to moment state = plays Files (planned (plans.Copy from to) moment state) state

-- a file is to be typed in; it has to have a name
abbrev pub begins : Place → State → Act
begins to state =
    if lacks_name to then refuses NameNeeded state
    else record { answer = answers.Data; reply = []; state = state }

-- what was typed in is written, at a moment
unfoldable pub writes : Place → List ℕ → ℕ → State → Act
writes to bytes moment state = plays Terminal (planned (plans.Write to bytes) moment state) state
