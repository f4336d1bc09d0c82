use Rattle.std.proofs.Common.{append_assoc}
use Rattle.cm_net.proofs.pieces.push_pairs.Goals as goal

pub returns-clause-bytes : goal.returns-clause-bytes
returns-clause-bytes c =
    rw (
      c.push_pair-6.ensures.bytes,
      c.push_str-5.ensures.bytes,
      c.push_pair-5.ensures.bytes,
      c.push_str-4.ensures.bytes,
      c.push_pair-4.ensures.bytes,
      c.push_str-3.ensures.bytes,
      c.push_pair-3.ensures.bytes,
      c.push_str-2.ensures.bytes,
      c.push_pair-2.ensures.bytes,
      c.push_str.ensures.bytes,
      c.push_pair.ensures.bytes,
    ) (simp append_assoc)
