-- What is left has the first field of all.
use Rattle.std.proofs.Common.{◌≡◌, drop}
use Rattle.cm_graph.specs.Graphs.{first_field}
use Rattle.cm_graph.proofs.chain.first_field.Given as goal

abbrev pub invariant-loop-exit : goal.invariant-loop-exit
invariant-loop-exit l =
    first_field l.commands l.ways (drop l.exit-index l.exits) ≡ first_field l.commands l.ways l.exits
