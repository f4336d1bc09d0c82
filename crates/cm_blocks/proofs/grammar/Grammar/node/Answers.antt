use Rattle.std.proofs.Common.{length, ap, subst, arith}
use Rattle.cm_blocks.specs.Grammar.{Graph}
use Rattle.cm_blocks.specs.Well.{IsWell}
use Rattle.cm_blocks.proofs.Wells.{well_read}
use Rattle.cm_blocks.proofs.grammar.Grammar.node.Goals as goal

pub returns-clause-well : goal.returns-clause-well
returns-clause-well c =
    let size = ap (λ (graph : Graph). length graph.nodes) c.self.view_is in
    subst (λ (graph : Graph). IsWell graph c.index.result.now) c.self.view_is
    (well_read _ c.from.result c.index.result.now c.self.invariant.0 (omega arith) c.index.ensures)
