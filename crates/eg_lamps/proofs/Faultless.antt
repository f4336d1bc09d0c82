-- The grammar of the lamps: it has no fault, and twelve nodes.
use Rattle.std.proofs.Common.{◌≡◌, length, None, refl}
use Rattle.cm_blocks.specs.Fault.{grammar_fault}
use Rattle.eg_lamps.specs.Graph.{blocks, command_entries, lamp_graph, lamp_nodes, switch_entries}

pub graph_has_no_fault : grammar_fault lamp_graph ≡ None
unfolding grammar_fault lamp_graph lamp_nodes blocks command_entries switch_entries
graph_has_no_fault = refl

pub graph_nodes : length lamp_graph.nodes ≡ 12
unfolding lamp_graph lamp_nodes blocks command_entries switch_entries
graph_nodes = refl
