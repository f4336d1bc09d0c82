use Rattle.cm_lists.proofs.Elements.{flat_map-drop}
use Rattle.cm_io.proofs.Texts.{left_less}
use Rattle.ex_commands.specs.Commands.Information.{definition_line}
use Rattle.ex_commands.proofs.commands.information.put_definitions.Goals as goal

pub loop-i-preserved : goal.loop-i-preserved
loop-i-preserved g c =
    left_less _ _ _ _ _ _ _ _ c.put_definition.ensures c.loop-i.invariant
    (flat_map-drop definition_line c.args.parts.now.logical c.loop-i.i _ c.logical.ensures)
