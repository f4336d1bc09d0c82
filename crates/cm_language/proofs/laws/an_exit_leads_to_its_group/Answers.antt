use Rattle.cm_language.proofs.Exits.{exit_leads_to_its_group}
use Rattle.cm_language.proofs.laws.an_exit_leads_to_its_group.Goals as goal

pub returns : goal.returns
returns c = exit_leads_to_its_group
