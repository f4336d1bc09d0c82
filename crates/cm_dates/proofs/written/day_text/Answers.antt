use Rattle.std.proofs.Common.{rules}
use Rattle.cm_dates.proofs.Texts.{only_text}
use Rattle.cm_dates.proofs.written.day_text.Goals as goal

pub returns-clause-text : goal.returns-clause-text
returns-clause-text c = only_text c.args.day c.date_text.result.bytes c.requires (search rules)
