use Rattle.std.proofs.Common.{◌≡◌, ◌++◌}
use Rattle.ex_grammar.proofs.nodes.push_all.Given as goal

abbrev pub invariant-loop-node : goal.invariant-loop-node
invariant-loop-node l = l.nodes.items ≡ l.fn.nodes.items ++ l.yielded
