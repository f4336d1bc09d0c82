-- The grammar of the router: it has no fault, and 15 nodes.
use Rattle.std.proofs.Common.{◌≡◌, length, None, refl}
use Rattle.cm_blocks.specs.Fault.{grammar_fault}
use Rattle.eg_router.specs.Graph.{blocks, first_nodes, router_graph, router_nodes}
use Rattle.eg_router.specs.Tables.{router_tables}

pub graph_has_no_fault : grammar_fault router_graph ≡ None
unfolding grammar_fault router_graph router_nodes first_nodes blocks router_tables
graph_has_no_fault = refl

pub graph_nodes : length router_graph.nodes ≡ 15
unfolding router_graph router_nodes first_nodes blocks
graph_nodes = refl
