-- The entries so far, and the exits that are left.
use Rattle.std.proofs.Common.{◌≡◌, [], drop}
use Rattle.cm_graph.specs.Graphs.{entries_from}
use Rattle.cm_graph.proofs.chain.entries_of.Given as goal

abbrev pub invariant-loop-exit : goal.invariant-loop-exit
invariant-loop-exit l =
    entries_from l.sort.switch l.sort.once l.commands l.ways l.made.items (drop l.exit-index l.exits)
    ≡ entries_from l.sort.switch l.sort.once l.commands l.ways [] l.exits
