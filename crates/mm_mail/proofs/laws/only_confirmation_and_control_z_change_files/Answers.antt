use Rattle.cm_run.proofs.LineTurns.{confirmed_by_end}
use Rattle.mm_mail.specs.Semantics.{mail_semantics}
use Rattle.mm_mail.proofs.MailKeys.{raw_key_keeps, send_waits, unconfirmed_stays}
use Rattle.mm_mail.proofs.laws.only_confirmation_and_control_z_change_files.Goals as goal

pub returns-clause-line : goal.returns-clause-line
returns-clause-line c = unconfirmed_stays

pub returns-clause-confirmed : goal.returns-clause-confirmed
returns-clause-confirmed c = confirmed_by_end mail_semantics

pub returns-clause-send : goal.returns-clause-send
returns-clause-send c = send_waits

pub returns-clause-typing : goal.returns-clause-typing
returns-clause-typing c = raw_key_keeps
