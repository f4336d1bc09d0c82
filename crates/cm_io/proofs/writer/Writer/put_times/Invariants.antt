use Rattle.cm_io.specs.Writer.{Writes}
use Rattle.cm_io.specs.Pieces.{times}
use Rattle.cm_io.proofs.writer.Writer.put_times.Given as goal

-- the turns so far are written
abbrev pub invariant-loop-turn : goal.invariant-loop-turn
invariant-loop-turn g l = Writes g.S.Sink l.fn.self l.self (times l.turn l.piece)
