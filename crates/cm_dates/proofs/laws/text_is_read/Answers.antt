use Rattle.cm_dates.proofs.DayTexts.{text_read}
use Rattle.cm_dates.proofs.laws.text_is_read.Goals as goal

pub returns : goal.returns
returns c = text_read
