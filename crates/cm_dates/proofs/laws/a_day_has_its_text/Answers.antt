use Rattle.cm_dates.proofs.Texts.{text_of_day}
use Rattle.cm_dates.proofs.laws.a_day_has_its_text.Goals as goal

pub returns : goal.returns
returns c = text_of_day
