use Rattle.std.proofs.Common.{drop}
use Rattle.cm_blocks.proofs.PlainDefaults.{later_takes}
use Rattle.cm_blocks.proofs.default.take.Goals as goal

pub loop-block-preserved : goal.loop-block-preserved
loop-block-preserved c =
    later_takes c.args.grammar.now c.nothing.result (drop c.args.at c.args.text.now) c.args.at c.args.blocks.now
    c.loop-block.block-index c.block-item.result c.in-Refuse.code c.in-Refuse.looked _ c.loop-block-test.true
    c.block-item.is c.nothing.ensures c.in-Refuse.ensures.value c.loop-block.invariant
