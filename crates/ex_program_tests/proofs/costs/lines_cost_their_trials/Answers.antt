use Rattle.std.proofs.Common.{refl}
use Rattle.cm_text.specs.Bytes.{is_blank, is_name, is_text, is_word}
use Rattle.cm_text.specs.Case.{begins_with, equals}
use Rattle.cm_line.specs.Keys.{class_at, class_of}
use Rattle.cm_tables.specs.Look.{look}
use Rattle.cm_blocks.specs.Chain.{chain_at}
use Rattle.cm_blocks.specs.Keyword.{entry_position}
use Rattle.cm_blocks.specs.KeptParse.{cost, kept}
use Rattle.cm_blocks.specs.Once.{repeats}
use Rattle.cm_blocks.specs.Parse.{parse_of}
use Rattle.cm_blocks.specs.Trial.{trial}
use Rattle.cm_state.specs.Edit.{edited_as}
use Rattle.ex_grammar.specs.Graph.{append_blocks, build_blocks, define_blocks, delete_blocks, directory_nodes, exec_graph, exec_nodes, first_nodes, last_nodes, listing_nodes, print_blocks, retention_nodes, set_blocks, source_nodes, switch_blocks, target_blocks, type_blocks}
use Rattle.ex_grammar.specs.Tables.{command_entries, exec_tables, topic_entries}
use Rattle.cm_run.specs.Trace.{keystroke_trace, line_keystroke, outcome_trace, run_trace, step_of, turn_outcome}
use Rattle.ex_program_tests.proofs.costs.lines_cost_their_trials.Goals as goal

pub returns : goal.returns
unfolding cost kept parse_of repeats chain_at trial entry_position look begins_with equals is_blank is_name is_text is_word class_at class_of edited_as exec_graph exec_nodes first_nodes last_nodes append_blocks build_blocks define_blocks delete_blocks directory_nodes listing_nodes print_blocks retention_nodes set_blocks source_nodes switch_blocks target_blocks type_blocks command_entries exec_tables topic_entries line_keystroke outcome_trace run_trace step_of keystroke_trace turn_outcome
returns c = λ state. (refl, refl, refl, refl)
