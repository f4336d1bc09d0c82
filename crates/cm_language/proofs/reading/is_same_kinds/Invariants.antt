-- What is left is the same where all is.
use Rattle.std.proofs.Common.{◌≡◌, drop}
use Rattle.std.specs.Cmp.Lexicographic.{pointwise}
use Rattle.cm_language.specs.Readings.{is_same_kind}
use Rattle.cm_language.proofs.reading.is_same_kinds.Given as goal

abbrev pub invariant-loop-at : goal.invariant-loop-at
invariant-loop-at l =
    pointwise is_same_kind (drop l.at l.kinds) (drop l.at l.others) ≡ pointwise is_same_kind l.kinds l.others
