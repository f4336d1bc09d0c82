use Rattle.mm_mail.proofs.MailKeys.{refused_stays, unsent_stays}
use Rattle.mm_mail.proofs.laws.a_refusal_changes_nothing.Goals as goal

pub returns-clause-command : goal.returns-clause-command
returns-clause-command c = refused_stays

pub returns-clause-message : goal.returns-clause-message
returns-clause-message c = unsent_stays
