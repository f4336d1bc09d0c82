-- What is left has the fault that all positions have.
use Rattle.std.proofs.Common.{◌≡◌, None, drop}
use Rattle.cm_graph.specs.Clashes.{end_clash}
use Rattle.cm_graph.proofs.clash.end_clash.Given as goal

abbrev pub invariant-loop-at : goal.invariant-loop-at
invariant-loop-at l =
    end_clash l.ways l.found (drop l.at-index l.positions) ≡ end_clash l.ways None l.positions
