use Rattle.std.proofs.Common.{take}
use Rattle.std.specs.List.{flat_map}
use Rattle.cm_io.specs.Writer.{Writes}
use Rattle.ex_commands.specs.Commands.Information.{entry_line}
use Rattle.ex_commands.proofs.commands.information.put_entries.Given as goal

abbrev pub invariant-loop-entry : goal.invariant-loop-entry
invariant-loop-entry g l = Writes g.S.Sink l.fn.out l.out (flat_map entry_line (take l.entry-index l.entries))
