-- The places so far, and those that are left.
use Rattle.std.proofs.Common.{◌≡◌, ◌++◌, drop, map}
use Rattle.cm_language.specs.Places.{site, site_of}
use Rattle.cm_language.proofs.places.all_places.Given as goal

abbrev pub invariant-loop-at : goal.invariant-loop-at
invariant-loop-at l =
    map site_of l.made.items ++ map (site l.commands l.ways l.known) (drop l.at l.known)
    ≡ map (site l.commands l.ways l.known) l.known
