use Rattle.mm_mail.proofs.MailKeys.{quit_ends, quit_stays}
use Rattle.mm_mail.proofs.laws.only_quit_ends_the_run.Goals as goal

pub returns-clause-key : goal.returns-clause-key
returns-clause-key c = quit_ends

pub returns-clause-same : goal.returns-clause-same
returns-clause-same c = quit_stays
