use Rattle.cm_run.proofs.LinePrograms.{confirmed_leaves, ends_only, unconfirmed_stays}
use Rattle.cm_run.proofs.laws.a_line_program_changes_where_a_line_is_confirmed.Goals as goal

pub returns-clause-confirmed : goal.returns-clause-confirmed
returns-clause-confirmed g c = confirmed_leaves

pub returns-clause-other : goal.returns-clause-other
returns-clause-other g c = unconfirmed_stays

pub returns-clause-ends : goal.returns-clause-ends
returns-clause-ends g c = ends_only
