use Rattle.cm_state.proofs.Lines.{edited_is_line, edited_recall_is_line, edited_recall_after_an_end}
use Rattle.cm_state.proofs.laws.a_key_leaves_a_line.Goals as goal

pub returns-clause-line : goal.returns-clause-line
returns-clause-line c = edited_is_line

pub returns-clause-recall : goal.returns-clause-recall
returns-clause-recall c = edited_recall_is_line

pub returns-clause-empty : goal.returns-clause-empty
returns-clause-empty c = edited_recall_after_an_end
