use Rattle.cm_run.proofs.LineTurns.{idle_stays}
use Rattle.cm_run.proofs.laws.an_idle_application_changes_where_a_line_is_confirmed.Goals as goal

pub returns : goal.returns
returns g c = λ m seen. idle_stays m seen
