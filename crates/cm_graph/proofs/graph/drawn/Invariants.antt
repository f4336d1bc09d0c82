-- The sheet so far, and the places that are left.
use Rattle.std.proofs.Common.{◌≡◌, [], drop, map}
use Rattle.cm_language.specs.Places.{site_of}
use Rattle.cm_graph.specs.Graphs.{drawn}
use Rattle.cm_graph.proofs.graph.drawn.Given as goal

abbrev pub invariant-loop-number : goal.invariant-loop-number
invariant-loop-number l =
    drawn l.commands l.ways l.number l.sheet (map site_of (drop l.number l.places))
    ≡ drawn l.commands l.ways 0 (record { nodes = []; tables = [] }) (map site_of l.places)
