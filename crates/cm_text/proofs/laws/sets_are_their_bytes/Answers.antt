use Rattle.cm_text.proofs.SetBits.{same_bytes}
use Rattle.cm_text.proofs.laws.sets_are_their_bytes.Goals as goal

pub returns : goal.returns
returns c = same_bytes
