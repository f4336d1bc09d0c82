use Rattle.std.proofs.Common.{length}
use Rattle.cm_fields.proofs.long_quotes.+push_all.Given as goal

abbrev pub decreases-push_all : goal.decreases-push_all
decreases-push_all l = length l.text.now
