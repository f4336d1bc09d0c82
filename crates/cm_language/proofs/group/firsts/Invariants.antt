-- What is made so far, with what is left.
use Rattle.std.proofs.Common.{◌≡◌, [], drop, fold}
use Rattle.cm_language.specs.Groups.{with_new}
use Rattle.cm_language.specs.Readings.{is_same_reading}
use Rattle.cm_language.proofs.group.firsts.Given as goal

abbrev pub invariant-loop-at : goal.invariant-loop-at
invariant-loop-at l =
    fold (with_new (is_same_reading l.commands l.ways)) l.made.items (drop l.at l.positions)
    ≡ fold (with_new (is_same_reading l.commands l.ways)) [] l.positions
