use Rattle.std.proofs.Common.{◌≡◌, take}
use Rattle.std.specs.List.{fold}
use Rattle.cm_text.specs.ByteSets.{with_byte}
use Rattle.cm_text.proofs.byte_set.ByteSet.of.Given as goal

abbrev pub invariant-loop-byte : goal.invariant-loop-byte
invariant-loop-byte l = l.set ≡ fold with_byte 0 (take l.byte-index l.bytes)
