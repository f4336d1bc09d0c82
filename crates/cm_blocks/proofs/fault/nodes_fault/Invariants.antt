-- The first fault of all nodes is that of those from here on.
use Rattle.std.proofs.Common.{◌≡◌, length, drop}
use Rattle.cm_blocks.specs.Fault.{nodes_fault}
use Rattle.cm_blocks.proofs.fault.nodes_fault.Given as goal

abbrev pub invariant-loop-number : goal.invariant-loop-number
invariant-loop-number l =
    nodes_fault l.tables (length l.nodes) l.number (drop l.number l.nodes)
    ≡ nodes_fault l.tables (length l.nodes) 0 l.nodes
