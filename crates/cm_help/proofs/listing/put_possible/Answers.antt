use Rattle.std.proofs.Common.{drop, sym, ◌∙◌}
use Rattle.cm_blocks.specs.Once.{fields_at}
use Rattle.cm_blocks.specs.Setting.{setting}
use Rattle.cm_io.proofs.Texts.{left_less}
use Rattle.cm_help.proofs.Joins.{left_here}
use Rattle.cm_help.proofs.listing.put_possible.Goals as goal

pub loop-block-preserved : goal.loop-block-preserved
loop-block-preserved g c =
    let s = setting c.args.grammar.now (g.N.Names.catalogue c.args.names.now) (g.R.Rules.meanings c.args.rules.now) in
    left_less _ _ _ _ _ _ _ _ c.put_phrases.ensures c.loop-block.invariant
    (left_here s (fields_at c.args.fields.now) (drop c.args.at c.args.line.now) _ c.args.at c.loop-block.first c.args.blocks.now c.loop-block.block-index
    c.block-item.result c.split_at.ensures.back c.loop-block-test.true c.block-item.is (sym c.refuses.ensures ∙ c.if-refuses.false))
