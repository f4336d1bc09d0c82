use Rattle.mm_mail.proofs.LineFields.{line_may}
use Rattle.mm_mail.proofs.laws.a_line_may_act.Goals as goal

pub returns : goal.returns
returns c = line_may
