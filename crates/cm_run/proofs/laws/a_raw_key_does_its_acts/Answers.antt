use Rattle.cm_run.proofs.LineTurns.{raw_leads}
use Rattle.cm_run.proofs.laws.a_raw_key_does_its_acts.Goals as goal

pub returns : goal.returns
returns g c = raw_leads
