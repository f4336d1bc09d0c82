use Rattle.cm_dates.proofs.OneText.{one_text}
use Rattle.cm_dates.proofs.laws.a_day_has_one_text.Goals as goal

pub returns : goal.returns
returns c = one_text
