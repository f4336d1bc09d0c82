use Rattle.cm_run.proofs.Prefixes.{run_leads}
use Rattle.cm_run.proofs.laws.a_run_leaves_where_its_keys_lead.Goals as goal

pub returns : goal.returns
returns g c = run_leads
