use Rattle.std.proofs.Common.{map, take}
use Rattle.cm_io.specs.Pieces.{shown_lines}
use Rattle.cm_io.specs.Writer.{Writes}
use Rattle.eg_lamps.specs.Lamps.{lamp_line}
use Rattle.eg_lamps.proofs.lamps.put_lamps.Given as goal

-- the lines so far are written
abbrev pub invariant-loop-lamp : goal.invariant-loop-lamp
invariant-loop-lamp g l = Writes g.S.Sink l.fn.out l.out (shown_lines (map lamp_line (take l.lamp-index l.lamps)))
