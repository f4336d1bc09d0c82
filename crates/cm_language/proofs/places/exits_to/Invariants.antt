-- The exits so far, and those that are left.
use Rattle.std.proofs.Common.{◌≡◌, ◌++◌, drop, map}
use Rattle.cm_language.specs.Places.{exit_of}
use Rattle.cm_language.proofs.places.exits_to.Given as goal

abbrev pub invariant-loop-at : goal.invariant-loop-at
invariant-loop-at l =
    l.made.items ++ map (exit_of l.commands l.ways l.known l.positions) (drop l.at l.firsts)
    ≡ map (exit_of l.commands l.ways l.known l.positions) l.firsts
