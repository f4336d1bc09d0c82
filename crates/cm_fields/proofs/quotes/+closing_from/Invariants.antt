use Rattle.std.proofs.Common.{length}
use Rattle.cm_fields.proofs.quotes.+closing_from.Given as goal

abbrev pub decreases-closing_from : goal.decreases-closing_from
decreases-closing_from l = length l.inside.now
