use Rattle.cm_blocks.proofs.Parses.{start_is_open}
use Rattle.cm_blocks.proofs.laws.a_start_is_open.Goals as goal

pub returns : goal.returns
returns c = start_is_open
