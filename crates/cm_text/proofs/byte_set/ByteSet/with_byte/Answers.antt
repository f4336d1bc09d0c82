use Rattle.cm_text.proofs.SetBits.{byte_below}
use Rattle.cm_text.proofs.byte_set.ByteSet.with_byte.Goals as goal

pub invariant_of-result : goal.invariant_of-result
invariant_of-result c = byte_below c.self.inside.bits c.args.byte c.self.invariant c.requires
