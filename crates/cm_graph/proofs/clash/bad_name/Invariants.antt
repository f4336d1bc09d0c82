-- What is left has the fault that all exits have.
use Rattle.std.proofs.Common.{◌≡◌, drop}
use Rattle.cm_graph.specs.Clashes.{bad_name}
use Rattle.cm_graph.proofs.clash.bad_name.Given as goal

abbrev pub invariant-loop-exit : goal.invariant-loop-exit
invariant-loop-exit l =
    bad_name l.commands l.ways (drop l.exit-index l.exits) ≡ bad_name l.commands l.ways l.exits
