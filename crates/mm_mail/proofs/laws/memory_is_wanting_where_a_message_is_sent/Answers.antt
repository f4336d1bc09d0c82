use Rattle.mm_mail.proofs.MemoryKeys.{last_takes}
use Rattle.mm_mail.proofs.laws.memory_is_wanting_where_a_message_is_sent.Goals as goal

pub returns : goal.returns
returns c = last_takes
