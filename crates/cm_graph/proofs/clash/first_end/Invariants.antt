-- What is left has the fault that all positions have.
use Rattle.std.proofs.Common.{◌≡◌, drop}
use Rattle.cm_graph.specs.Clashes.{first_end}
use Rattle.cm_graph.proofs.clash.first_end.Given as goal

abbrev pub invariant-loop-at : goal.invariant-loop-at
invariant-loop-at l =
    first_end l.ways (drop l.at-index l.positions) ≡ first_end l.ways l.positions
