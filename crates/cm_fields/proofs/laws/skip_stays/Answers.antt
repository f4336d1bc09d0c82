use Rattle.cm_fields.proofs.Skips.{skip_stays}
use Rattle.cm_fields.proofs.laws.skip_stays.Goals as goal

pub returns : goal.returns
returns c = skip_stays
