use Rattle.std.proofs.Common.{arith}
use Rattle.std.proofs.lemmas.Bool.Decides.{nat_tests}
use Rattle.cm_text.specs.Bytes.{is_name, is_word}
use Rattle.cm_text.proofs.byte_set.ByteSet.names.Goals as goal

pub returns-clause-bytes : goal.returns-clause-bytes
unfolding is_name is_word
returns-clause-bytes c byte =
    rw (c.with_range-3.ensures.bytes byte, c.with_range-2.ensures.bytes byte, c.with_range.ensures.bytes byte, c.of.ensures.bytes byte)
    (grind (arith, nat_tests))
