use Rattle.mm_mail.proofs.Numbers.{own_number}
use Rattle.mm_mail.proofs.laws.a_message_has_a_number_of_its_own.Goals as goal

pub returns : goal.returns
returns c = own_number
