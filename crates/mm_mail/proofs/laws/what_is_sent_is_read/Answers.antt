use Rattle.mm_mail.proofs.LaterActs.{stays_read}
use Rattle.mm_mail.proofs.SentMessages.{sent_is_read}
use Rattle.mm_mail.proofs.laws.what_is_sent_is_read.Goals as goal

pub returns-clause-sent : goal.returns-clause-sent
returns-clause-sent c = λ message state ok. sent_is_read message state ok

pub returns-clause-later : goal.returns-clause-later
returns-clause-later c = stays_read
