use Rattle.cm_lists.proofs.Elements.{flat_map-drop}
use Rattle.cm_io.proofs.Texts.{left_less}
use Rattle.ex_commands.specs.Replies.{origin_line}
use Rattle.ex_commands.proofs.pairs.put_pairs.Goals as goal

pub loop-i-preserved : goal.loop-i-preserved
loop-i-preserved g c =
    left_less _ _ _ _ _ _ _ _ c.put_pair.ensures c.loop-i.invariant
    (flat_map-drop (origin_line c.args.origin) c.args.ready.now.pairs c.loop-i.i _ c.pair.ensures)
