-- The grammar: it has no fault, and four nodes.
use Rattle.std.proofs.Common.{◌≡◌, length, None, refl}
use Rattle.cm_blocks.specs.Fault.{grammar_fault}
use Rattle.eg_template.specs.Graph.{command_entries, graph, graph_nodes}

pub graph_has_no_fault : grammar_fault graph ≡ None
unfolding grammar_fault graph graph_nodes command_entries
graph_has_no_fault = refl

pub node_count : length graph.nodes ≡ 4
unfolding graph graph_nodes command_entries
node_count = refl
