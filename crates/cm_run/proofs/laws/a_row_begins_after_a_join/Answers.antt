use Rattle.cm_run.proofs.Rows.{row_joined}
use Rattle.cm_run.proofs.laws.a_row_begins_after_a_join.Goals as goal

pub returns : goal.returns
returns c = row_joined
