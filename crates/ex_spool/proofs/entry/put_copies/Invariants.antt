-- As many copies as were taken are written.
use Rattle.cm_io.specs.Writer.{Writes}
use Rattle.ex_spool.specs.Spool.{copies_text}
use Rattle.ex_spool.proofs.entry.put_copies.Given as goal

abbrev pub invariant-loop-copy : goal.invariant-loop-copy
invariant-loop-copy g l = Writes g.S.Sink l.fn.out l.out (copies_text l.entry l.bytes l.copy)
