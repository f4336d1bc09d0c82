use Rattle.cm_blocks.proofs.KeptFields.{kept_begins}
use Rattle.cm_state.proofs.laws.the_kept_fields_are_a_prefix.Goals as goal

pub returns : goal.returns
returns c = kept_begins
