use Rattle.std.proofs.Common.{map, take}
use Rattle.cm_io.specs.Pieces.{shown_lines}
use Rattle.cm_io.specs.Writer.{Writes}
use Rattle.eg_router.specs.Configuration.{interface_line}
use Rattle.eg_router.proofs.configuration.put_interfaces.Given as goal

-- those so far are written
abbrev pub invariant-loop-it : goal.invariant-loop-it
invariant-loop-it g l = Writes g.S.Sink l.fn.out l.out (shown_lines (map interface_line (take l.it-index l.interfaces)))
