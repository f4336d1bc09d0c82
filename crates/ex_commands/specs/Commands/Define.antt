-- DEFINE: a logical name stands for a directory, or is taken away.
use Rattle.std.specs.Prelude.{ℕ, ◌==◌, List, [], if◌then◌else◌, Option, Some, None, option_and_then}
use Rattle.cm_fields.specs.declared.code.Code.TheVariants.{NoDefinition}
use Rattle.cm_fields.specs.declared.value.Value.{Value}
use Rattle.cm_fields.specs.declared.value.Value.TheVariants as values
use Rattle.cm_blocks.specs.declared.function.Role.TheVariants as roles
use Rattle.cm_blocks.specs.FieldView.{FieldView}
use Rattle.cm_state.specs.Roles.{field_of}
use Rattle.ex_store.specs.declared.plan.Plan.TheVariants as plans
use Rattle.ex_store.specs.Plan.{planned}
use Rattle.ex_store.specs.State.{State, defined, undefined}
use Rattle.ex_commands.specs.declared.pairs.Origin.TheVariants.{Files}
use Rattle.ex_commands.specs.declared.command.Command.{Command}
use Rattle.ex_commands.specs.declared.command.Command.TheVariants as commands
use Rattle.ex_commands.specs.declared.commands.define.TheConstants.{NAME_RULE}
use Rattle.ex_commands.specs.Effect.{Act, does, plays, refuses}
use Rattle.ex_commands.specs.Line.{Line, directory_in, on, said_of, upper}

-- the bytes of a field that the rule of logical names took, in upper case
abbrev pub logical_by : List ℕ → FieldView → Value → Option (List ℕ)
logical_by text field (values.Hook id size) =
    if id == NAME_RULE then Some (upper text (record { start = field.start; end = field.end })) else None
logical_by text field value = None

abbrev pub logical_in : Line → Option FieldView → Option (List ℕ)
logical_in line =
    option_and_then (λ field. logical_by (said_of line.graph line.text field) field field.value)

abbrev pub define_of : Line → Command
define_of line =
    on (λ name. commands.Define name (directory_in line (field_of roles.Files line.fields)))
    (logical_in line (field_of roles.Value line.fields))

-- a logical name is taken away
abbrev pub undefines : List ℕ → State → Act
undefines name state = if defined name state then does [] (undefined name state) else refuses NoDefinition state

-- it stands for a directory, or for none
abbrev pub defines : List ℕ → Option (List ℕ) → ℕ → State → Act
defines name None moment state = undefines name state
defines name (Some directory) moment state = plays Files (planned (plans.Define name directory) moment state) state
