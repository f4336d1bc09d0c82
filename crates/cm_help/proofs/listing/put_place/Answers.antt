use Rattle.std.proofs.Common.{arith}
use Rattle.std.proofs.lemmas.Option.{slice_get_past}
use Rattle.cm_io.proofs.Texts.{writes_none}
use Rattle.cm_help.proofs.listing.put_place.Goals as goal

pub returns-then-place-nodes : goal.returns-then-place-nodes
returns-then-place-nodes g c =
    rw (c.in-Some.is, slice_get_past c.args.grammar.now.nodes c.args.place.node (omega arith)) (writes_none _ _)

pub returns : goal.returns
returns g c = rw (c.in-Some.is, c.node-node.ensures.value, ← c.from-at.ensures) c.put_waiting.ensures
