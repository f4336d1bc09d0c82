-- The numbers so far, and the others that are left.
use Rattle.std.proofs.Common.{◌≡◌, drop}
use Rattle.cm_synopsis.specs.Ways.{joined}
use Rattle.cm_synopsis.proofs.way.join.Given as goal

abbrev pub invariant-loop-other : goal.invariant-loop-other
invariant-loop-other l = joined l.numbers.items (drop l.other-index l.others) ≡ joined l.fn.numbers.items l.others
