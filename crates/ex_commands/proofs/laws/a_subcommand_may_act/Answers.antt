use Rattle.cm_blocks.specs.declared.field.Ending.TheVariants as ending
use Rattle.ex_commands.proofs.Subcommands.{added_may}
use Rattle.ex_commands.proofs.laws.a_subcommand_may_act.Goals as goal

pub returns : goal.returns
returns c = λ command state catalogue text fields parse may. added_may command state catalogue text fields ending.Done parse may
