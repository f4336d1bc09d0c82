use Rattle.std.proofs.Common.{take}
use Rattle.std.specs.List.{flat_map}
use Rattle.cm_io.specs.Writer.{Writes}
use Rattle.ex_commands.specs.Commands.Information.{quoted_byte}
use Rattle.ex_commands.proofs.commands.information.put_quoted.Given as goal

abbrev pub invariant-loop-byte : goal.invariant-loop-byte
invariant-loop-byte g l = Writes g.S.Sink l.fn.out l.out (flat_map quoted_byte (take l.byte-index l.note))
