-- What is known so far, with what the places that are left will add.
use Rattle.std.proofs.Common.{◌≡◌, ◌-◌}
use Rattle.cm_language.specs.Places.{known_after, known_within}
use Rattle.cm_language.proofs.known.known_within.Given as goal

abbrev pub invariant-loop-at : goal.invariant-loop-at
invariant-loop-at l =
    known_after l.commands l.ways (l.limit - l.at) l.at l.known.items ≡ known_within l.limit l.commands l.ways
