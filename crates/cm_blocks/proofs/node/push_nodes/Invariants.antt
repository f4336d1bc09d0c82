use Rattle.std.proofs.Common.{◌≡◌, ◌++◌, map}
use Rattle.cm_blocks.specs.Words.{only}
use Rattle.cm_blocks.proofs.node.push_nodes.Given as goal

-- one for each block so far
abbrev pub invariant-loop-block : goal.invariant-loop-block
invariant-loop-block l = l.nodes.items ≡ l.fn.nodes.items ++ map only l.yielded
