-- What is made so far, with what is left.
use Rattle.std.proofs.Common.{◌≡◌, ◌++◌, drop, filter}
use Rattle.cm_language.specs.Readings.{is_same_reading}
use Rattle.cm_language.proofs.group.group_of.Given as goal

abbrev pub invariant-loop-at : goal.invariant-loop-at
invariant-loop-at l =
    l.made.items ++ filter (is_same_reading l.commands l.ways l.one) (drop l.at l.positions)
    ≡ filter (is_same_reading l.commands l.ways l.one) l.positions
