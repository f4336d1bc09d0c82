-- A command that may act may act with a subcommand more.
use Rattle.std.proofs.Common.{ℕ, ◌≤◌, ◌==◌, IfSome, List, length, Option, Some, None}
use Rattle.std.specs.Option.{option_map_or}
use Rattle.cm_lists.proofs.Bools.{cond_each}
use Rattle.cm_fields.specs.declared.value.Value.{Value}
use Rattle.cm_fields.specs.declared.value.Value.TheVariants as values
use Rattle.cm_files.specs.Catalogue.{Catalogue}
use Rattle.cm_blocks.specs.declared.field.Ending.{Ending}
use Rattle.cm_blocks.specs.declared.function.Role.TheVariants as roles
use Rattle.cm_blocks.specs.Parse.{IsParse}
use Rattle.cm_blocks.specs.Setting.{setting}
use Rattle.cm_blocks.specs.FieldView.{FieldView}
use Rattle.cm_state.specs.Roles.{field_of}
use Rattle.ex_grammar.specs.ExecRules.{exec_meanings}
use Rattle.ex_grammar.specs.Graph.{exec_graph}
use Rattle.ex_grammar.specs.declared.code.TheConstants.{GENERATIONS}
use Rattle.ex_store.specs.declared.limits.TheConstants.{RETENTION_LIMIT}
use Rattle.ex_store.specs.State.{State}
use Rattle.ex_commands.specs.declared.command.Command.{Command}
use Rattle.ex_commands.specs.declared.command.Command.TheVariants as commands
use Rattle.ex_commands.specs.Answer.{MayAct}
use Rattle.ex_commands.specs.Command.{added, complete, extended, subcommand_node, with_sub}
use Rattle.ex_commands.specs.Line.{count_by, count_in, keyword_code}
use Rattle.ex_commands.specs.NameParts.{IsSaid, IsSaidIn}
use Rattle.ex_commands.proofs.Fits.{names_are_short}

abbrev pub IsKept : Option ℕ → Type 0
IsKept retention = IfSome retention (λ count. count ≤ RETENTION_LIMIT)

count_kept : (value : Value) → IsSaid value → IsKept (count_by value)
count_kept (values.Hook id count) said = said.few
count_kept value said = tt

pub field_kept : (said : Option FieldView) → IsSaidIn said → IsKept (count_in said)
field_kept None said = tt
field_kept (Some field) said = count_kept field.value said

pub complete_may : (command : Command) (state : State) → MayAct command state → MayAct (complete command) state
complete_may (commands.Build directory retention sub) state may = may
complete_may (commands.Directory files since before deleted read sub) state may = may
complete_may command state may = may

with_sub_may : (code : ℕ) (said : Option FieldView) (command : Command) (state : State) → IsSaidIn said → MayAct command state
    → MayAct (with_sub code said command) state
with_sub_may code said (commands.Build directory retention sub) state is may = (
  may.0,
  cond_each IsKept (code == GENERATIONS) (count_in said) retention (field_kept said is) may.1,
)
with_sub_may code said (commands.Directory files since before deleted read sub) state is may = may
with_sub_may code said command state is may = may

extended_may : (fields : List FieldView) (command : Command) (state : State) → IsSaidIn (field_of roles.Value fields)
    → MayAct command state → MayAct (extended fields command) state
extended_may fields command state said may = by (field_of roles.Verb fields)
  where
    by : (verb : Option FieldView)
        → MayAct (option_map_or (λ (verb : FieldView). with_sub (keyword_code verb.value) (field_of roles.Value fields) command) verb command) state
    by None = may
    by (Some verb) = with_sub_may (keyword_code verb.value) (field_of roles.Value fields) command state said may

pub added_may : (command : Command) (state : State) (c : Catalogue) (text : List ℕ) (fields : List FieldView) (ends : Ending)
    → IsParse (setting exec_graph c exec_meanings) (subcommand_node command) text fields ends → MayAct command state
    → MayAct (added fields command) state
added_may command state c text fields ends parse may =
    cond_each (λ (command : Command). MayAct command state) (length fields == 0) (complete command) (extended fields command)
    (complete_may command state may)
    (extended_may fields command state (names_are_short c text fields ends parse).value may)
