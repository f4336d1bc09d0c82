-- BUILD: a directory is made, and told how many generations it keeps.
use Rattle.std.specs.Prelude.{ℕ, ◌==◌, Bool, if◌then◌else◌, List, Option, None}
use Rattle.cm_blocks.specs.declared.function.Role.TheVariants as roles
use Rattle.cm_blocks.specs.FieldView.{FieldView}
use Rattle.cm_state.specs.Roles.{field_of}
use Rattle.ex_grammar.specs.declared.code.TheConstants.{GENERATIONS}
use Rattle.ex_store.specs.declared.plan.Plan.TheVariants as plans
use Rattle.ex_store.specs.Plan.{planned}
use Rattle.ex_store.specs.State.{State}
use Rattle.ex_commands.specs.declared.command.Command.{Command}
use Rattle.ex_commands.specs.declared.command.Command.TheVariants as commands
use Rattle.ex_commands.specs.declared.pairs.Origin.TheVariants.{Files}
use Rattle.ex_commands.specs.Effect.{Act, pends, plays}
use Rattle.ex_commands.specs.Line.{Line, count_in, directory_in, has_subs, on}

abbrev pub build_of : Line → Command
build_of line =
    on (λ directory. commands.Build directory None (has_subs line))
    (directory_in line (field_of roles.Files line.fields))

-- it waits for its subcommands where they follow
abbrev pub builds : List ℕ → Option ℕ → Bool → ℕ → State → Act
builds directory retention sub moment state =
    if sub then pends state else plays Files (planned (plans.Build directory retention) moment state) state

-- with a subcommand of this code and what its value says: GENERATIONS tells how many, and of several the last counts
abbrev pub retention_with : ℕ → Option FieldView → Option ℕ → Option ℕ
retention_with code said retention =
    if code == GENERATIONS then count_in said else retention
