use Rattle.mm_mail.proofs.MessageNames.{is_told}
use Rattle.mm_mail.proofs.message_name.name_number.Goals as goal

pub returns-in-None-clause-value : goal.returns-in-None-clause-value
returns-in-None-clause-value c = is_told c.args.name.now _ _ c.requires c.digits_of.ensures c.value_of.ensures c.in-None.is
