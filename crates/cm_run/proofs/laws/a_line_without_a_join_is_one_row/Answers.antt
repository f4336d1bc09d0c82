use Rattle.cm_run.proofs.Rows.{row_plain}
use Rattle.cm_run.proofs.laws.a_line_without_a_join_is_one_row.Goals as goal

pub returns : goal.returns
returns c = row_plain
