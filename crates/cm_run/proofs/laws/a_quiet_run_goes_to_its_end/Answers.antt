use Rattle.cm_run.proofs.LawLemmas.{quiet_ends}
use Rattle.cm_run.proofs.laws.a_quiet_run_goes_to_its_end.Goals as goal

pub returns : goal.returns
returns c = quiet_ends
