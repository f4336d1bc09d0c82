-- The grammar of mail: it has no fault, and eight nodes.
use Rattle.std.proofs.Common.{◌≡◌, length, None, refl}
use Rattle.cm_blocks.specs.Fault.{grammar_fault}
use Rattle.mm_mail.specs.Graph.{blocks, command_entries, mail_graph, mail_nodes}

pub graph_has_no_fault : grammar_fault mail_graph ≡ None
unfolding grammar_fault mail_graph mail_nodes blocks command_entries
graph_has_no_fault = refl

pub graph_nodes : length mail_graph.nodes ≡ 8
unfolding mail_graph mail_nodes blocks command_entries
graph_nodes = refl
