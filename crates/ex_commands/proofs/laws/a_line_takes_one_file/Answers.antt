use Rattle.cm_blocks.specs.declared.field.Ending.TheVariants as ending
use Rattle.ex_commands.proofs.OneFile.{line_takes_one}
use Rattle.ex_commands.proofs.laws.a_line_takes_one_file.Goals as goal

pub returns : goal.returns
returns c = λ state session file well parse is. line_takes_one state well _ session.fields ending.Done file parse is
