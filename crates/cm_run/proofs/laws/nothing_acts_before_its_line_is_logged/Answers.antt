use Rattle.cm_run.proofs.LawLemmas.{acts_after}
use Rattle.cm_run.proofs.laws.nothing_acts_before_its_line_is_logged.Goals as goal

pub returns : goal.returns
returns g c = acts_after
