use Rattle.cm_blocks.proofs.KeptFields.{kept_begins}
use Rattle.cm_blocks.proofs.laws.what_is_kept_stands.Goals as goal

pub returns : goal.returns
returns c = kept_begins
