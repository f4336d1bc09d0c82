use Rattle.std.proofs.Common.{map, take}
use Rattle.cm_io.specs.Pieces.{shown_lines}
use Rattle.cm_io.specs.Writer.{Writes}
use Rattle.eg_console.specs.Console.{row}
use Rattle.eg_console.proofs.console.put_rows.Given as goal

-- the rows so far are written
abbrev pub invariant-loop-it : goal.invariant-loop-it
invariant-loop-it g l = Writes g.S.Sink l.fn.out l.out (shown_lines (map row (take l.it-index l.interfaces)))
