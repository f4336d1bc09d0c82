-- The tables and the grammar of the EXEC have no fault.
use Rattle.std.proofs.Common.{◌≡◌, length, None, refl}
use Rattle.cm_text.specs.Case.{begins_with, equals}
use Rattle.cm_tables.specs.Order.{table_fault}
use Rattle.cm_blocks.specs.Fault.{grammar_fault}
use Rattle.ex_grammar.specs.Graph.{append_blocks, build_blocks, define_blocks, delete_blocks, directory_nodes, exec_graph, exec_nodes, first_nodes, last_nodes, listing_nodes, print_blocks, retention_nodes, set_blocks, source_nodes, switch_blocks, target_blocks, type_blocks}
use Rattle.ex_grammar.specs.Tables.{build_entries, command_entries, directory_entries, exec_tables, file_entries, set_entries, switch_entries, topic_entries}

pub commands_have_no_fault : table_fault command_entries ≡ None
unfolding table_fault begins_with equals command_entries
commands_have_no_fault = refl

pub topics_have_no_fault : table_fault topic_entries ≡ None
unfolding table_fault begins_with equals topic_entries
topics_have_no_fault = refl

pub directory_subcommands_have_no_fault : table_fault directory_entries ≡ None
unfolding table_fault begins_with equals directory_entries
directory_subcommands_have_no_fault = refl

pub build_subcommands_have_no_fault : table_fault build_entries ≡ None
unfolding table_fault build_entries
build_subcommands_have_no_fault = refl

pub switches_have_no_fault : table_fault switch_entries ≡ None
unfolding table_fault begins_with equals switch_entries
switches_have_no_fault = refl

pub set_words_have_no_fault : table_fault set_entries ≡ None
unfolding table_fault set_entries
set_words_have_no_fault = refl

pub file_words_have_no_fault : table_fault file_entries ≡ None
unfolding table_fault file_entries
file_words_have_no_fault = refl

pub graph_has_no_fault : grammar_fault exec_graph ≡ None
unfolding grammar_fault begins_with equals exec_graph exec_nodes first_nodes source_nodes target_blocks append_blocks delete_blocks type_blocks listing_nodes define_blocks build_blocks last_nodes print_blocks switch_blocks directory_nodes retention_nodes set_blocks exec_tables command_entries topic_entries directory_entries build_entries switch_entries set_entries file_entries
graph_has_no_fault = refl

pub graph_nodes : length exec_graph.nodes ≡ 57
unfolding exec_graph exec_nodes first_nodes source_nodes target_blocks append_blocks delete_blocks type_blocks listing_nodes define_blocks build_blocks last_nodes print_blocks switch_blocks directory_nodes retention_nodes set_blocks
graph_nodes = refl
