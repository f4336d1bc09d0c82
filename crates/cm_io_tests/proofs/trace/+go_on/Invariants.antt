use Rattle.std.proofs.Common.{length}
use Rattle.cm_io_tests.proofs.trace.+go_on.Given as goal

abbrev pub decreases-go_on : goal.decreases-go_on
decreases-go_on l = length l.lines.now
