use Rattle.std.proofs.Common.{take}
use Rattle.std.specs.List.{flat_map}
use Rattle.cm_io.specs.Writer.{Writes}
use Rattle.eg_router.specs.Configuration.{quoted_byte}
use Rattle.eg_router.proofs.configuration.put_quoted_bytes.Given as goal

-- those so far are written
abbrev pub invariant-loop-byte : goal.invariant-loop-byte
invariant-loop-byte g l = Writes g.S.Sink l.fn.out l.out (flat_map quoted_byte (take l.byte-index l.text))
