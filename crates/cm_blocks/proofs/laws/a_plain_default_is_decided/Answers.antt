use Rattle.cm_blocks.proofs.PlainDefaults.{plain_takes}
use Rattle.cm_blocks.proofs.laws.a_plain_default_is_decided.Goals as goal

pub returns : goal.returns
returns c = plain_takes
