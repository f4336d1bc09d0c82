-- The grammar of the console: it has no fault, and nine nodes.
use Rattle.std.proofs.Common.{◌≡◌, length, None, refl}
use Rattle.cm_fields.specs.Numbers.{is_numbers}
use Rattle.cm_blocks.specs.Fault.{grammar_fault}
use Rattle.eg_console.specs.Graph.{console_graph, console_nodes, console_tables}

pub graph_has_no_fault : grammar_fault console_graph ≡ None
unfolding grammar_fault is_numbers console_graph console_nodes console_tables
graph_has_no_fault = refl

pub node_count : length console_graph.nodes ≡ 9
unfolding console_graph console_nodes console_tables
node_count = refl
