use Rattle.std.proofs.Common.{arith}
use Rattle.std.proofs.lemmas.Option.{slice_get_past}
use Rattle.cm_io.proofs.Texts.{writes_none}
use Rattle.cm_help.proofs.listing.put_node.Goals as goal

pub returns-then-number-nodes : goal.returns-then-number-nodes
returns-then-number-nodes g c = rw (slice_get_past c.args.grammar.now.nodes c.args.number (omega arith)) (writes_none _ _)
