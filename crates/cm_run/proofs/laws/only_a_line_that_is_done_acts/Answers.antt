use Rattle.cm_run.proofs.LawLemmas.{idle, refused}
use Rattle.cm_run.proofs.laws.only_a_line_that_is_done_acts.Goals as goal

pub returns-clause-going_on : goal.returns-clause-going_on
returns-clause-going_on g c = idle

pub returns-clause-refused : goal.returns-clause-refused
returns-clause-refused g c = refused
