-- What is left has the fault that all exits have.
use Rattle.std.proofs.Common.{◌≡◌, None, drop}
use Rattle.cm_graph.specs.Clashes.{claim_clash}
use Rattle.cm_graph.proofs.clash.claim_clash.Given as goal

abbrev pub invariant-loop-exit : goal.invariant-loop-exit
invariant-loop-exit l =
    claim_clash l.commands l.ways l.found (drop l.exit-index l.exits) ≡ claim_clash l.commands l.ways None l.exits
