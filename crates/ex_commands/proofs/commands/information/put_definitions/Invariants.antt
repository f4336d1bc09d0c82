-- The lines of the logical names from here on are left to be written.
use Rattle.std.proofs.Common.{drop}
use Rattle.std.specs.List.{flat_map}
use Rattle.cm_io.proofs.Texts.{Left}
use Rattle.ex_commands.specs.Commands.Information.{definition_line}
use Rattle.ex_commands.proofs.commands.information.put_definitions.Given as goal

abbrev pub invariant-loop-i : goal.invariant-loop-i
invariant-loop-i g l =
    Left g.S.Sink l.fn.out l.out (flat_map definition_line (drop l.i l.parts.logical))
    (flat_map definition_line l.parts.logical)
