use Rattle.std.proofs.Common.{arith}
use Rattle.cm_blocks.proofs.Wells.{nodes_few}
use Rattle.cm_blocks.proofs.grammar.Grammar.nodes.Goals as goal

pub overflow_cast-result : goal.overflow_cast-result
overflow_cast-result c = let few = nodes_few _ c.self.invariant.0 in omega arith
