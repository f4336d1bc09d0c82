-- What is left is the same where all is.
use Rattle.std.proofs.Common.{◌≡◌, drop}
use Rattle.cm_language.specs.Groups.{is_group}
use Rattle.cm_language.proofs.group.is_group.Given as goal

abbrev pub invariant-loop-at : goal.invariant-loop-at
invariant-loop-at l = is_group (drop l.at l.ones) (drop l.at l.others) ≡ is_group l.ones l.others
