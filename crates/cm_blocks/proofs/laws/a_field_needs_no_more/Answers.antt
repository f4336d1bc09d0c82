use Rattle.cm_blocks.proofs.Needs.{chain_keeps}
use Rattle.cm_blocks.proofs.laws.a_field_needs_no_more.Goals as goal

pub returns : goal.returns
returns c = chain_keeps
