use Rattle.std.proofs.Common.{List, [], ap, map, false}
use Rattle.cm_lists.proofs.Elements.{drop_here}
use Rattle.cm_blocks.specs.declared.node.Block.{Block}
use Rattle.cm_blocks.specs.Once.{fields_at}
use Rattle.cm_io.proofs.Texts.{left_less}
use Rattle.cm_help.specs.Help.{listing}
use Rattle.cm_help.specs.Phrase.{phrase}
use Rattle.cm_help.proofs.listing.put_untouched.Goals as goal

pub loop-block-preserved : goal.loop-block-preserved
loop-block-preserved g c =
    left_less _ _ _ _ _ _ _ _ c.put_item.ensures c.loop-block.invariant
    (ap (λ (blocks : List Block).
    listing false (map (phrase c.args.grammar.now (g.R.Rules.meanings c.args.rules.now) (fields_at c.args.fields.now) []) blocks))
    (drop_here c.args.blocks.now c.loop-block.block-index c.block-item.result c.loop-block-test.true c.block-item.is))
