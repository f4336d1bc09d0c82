-- What is made so far, with what is left to come.
use Rattle.std.proofs.Common.{◌≡◌, [], drop, fold, flat_map}
use Rattle.cm_language.specs.Groups.{is_position, next_positions, with_new}
use Rattle.cm_language.proofs.reached.reached.Given as goal

abbrev pub invariant-loop-at : goal.invariant-loop-at
invariant-loop-at l =
    fold (with_new is_position) l.made.items (flat_map (next_positions l.ways) (drop l.at l.positions))
    ≡ fold (with_new is_position) [] (flat_map (next_positions l.ways) l.positions)
