use Rattle.mm_mail.specs.LineKeeping.{mail_keeps_lines}
use Rattle.mm_mail.proofs.laws.mail_keeps_its_lines.Goals as goal

pub returns : goal.returns
returns c = mail_keeps_lines
