use Rattle.std.proofs.Common.{take}
use Rattle.std.specs.List.{flat_map}
use Rattle.cm_io.specs.Pieces.{shown_lines}
use Rattle.cm_io.specs.Writer.{Writes}
use Rattle.eg_router.specs.Configuration.{configuration_of}
use Rattle.eg_router.proofs.configuration.put_configuration.Given as goal

-- those so far are written
abbrev pub invariant-loop-it : goal.invariant-loop-it
invariant-loop-it g l = Writes g.S.Sink l.fn.out l.out (shown_lines (flat_map configuration_of (take l.it-index l.interfaces)))
