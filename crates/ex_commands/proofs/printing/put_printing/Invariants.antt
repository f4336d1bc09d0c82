-- What is left of the bytes is left to be put.
use Rattle.std.proofs.Common.{length, map}
use Rattle.cm_text.specs.ScreenBytes.{printing_byte}
use Rattle.cm_io.proofs.Texts.{Left}
use Rattle.ex_commands.proofs.printing.put_printing.Given as goal

abbrev pub invariant-loop-rest : goal.invariant-loop-rest
invariant-loop-rest g l = Left g.S.Sink l.fn.out l.out (map printing_byte l.rest) (map printing_byte l.bytes)

abbrev pub decreases-loop-rest : goal.decreases-loop-rest
decreases-loop-rest g l = length l.rest
