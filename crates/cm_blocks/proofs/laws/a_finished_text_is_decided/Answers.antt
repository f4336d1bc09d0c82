use Rattle.cm_blocks.proofs.Closure.{finished_closes}
use Rattle.cm_blocks.proofs.laws.a_finished_text_is_decided.Goals as goal

pub returns : goal.returns
returns c = finished_closes
