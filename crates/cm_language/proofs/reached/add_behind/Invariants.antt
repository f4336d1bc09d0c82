-- What is made so far, with what is left to come.
use Rattle.std.proofs.Common.{◌≡◌, drop, fold}
use Rattle.cm_language.specs.Groups.{is_position, positions_behind, with_new}
use Rattle.cm_language.proofs.reached.add_behind.Given as goal

abbrev pub invariant-loop-at : goal.invariant-loop-at
invariant-loop-at l =
    fold (with_new is_position) l.made.items (positions_behind l.position (drop l.at l.links))
    ≡ fold (with_new is_position) l.initial.made.items (positions_behind l.position l.links)
