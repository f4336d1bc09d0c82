-- Those that are left are the same where all are.
use Rattle.std.proofs.Common.{◌≡◌, drop}
use Rattle.cm_graph.specs.Tables.{all_same}
use Rattle.cm_graph.proofs.table.are_same_entries.Given as goal

abbrev pub invariant-loop-at : goal.invariant-loop-at
invariant-loop-at l = all_same (drop l.at l.ones) (drop l.at l.others) ≡ all_same l.ones l.others
