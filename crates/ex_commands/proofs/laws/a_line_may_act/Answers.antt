use Rattle.cm_blocks.specs.declared.field.Ending.TheVariants as ending
use Rattle.ex_commands.proofs.Forms.{text_plain}
use Rattle.ex_commands.proofs.Doable.{line_may_act}
use Rattle.ex_commands.proofs.laws.a_line_may_act.Goals as goal

pub returns : goal.returns
returns c = λ state session line lawful parse.
    line_may_act state _ session.fields ending.Done (text_plain session line) lawful parse
