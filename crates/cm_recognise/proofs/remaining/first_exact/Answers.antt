use Rattle.std.proofs.Common.{Some, ap, sym, ◌∙◌}
use Rattle.cm_tables.specs.declared.table.Look.{Look}
use Rattle.cm_blocks.specs.Once.{fields_at}
use Rattle.cm_recognise.specs.Remaining.{remains}
use Rattle.cm_recognise.proofs.Choices.{exact_here, is_equal, pass}
use Rattle.cm_recognise.proofs.remaining.first_exact.Goals as goal

pub returns-then-is_named : goal.returns-then-is_named
returns-then-is_named c =
    ap (λ (look : Look). Some look) c.exact.ensures
    ∙ exact_here (remains c.args.grammar.now (fields_at c.args.fields.now) c.args.block.now) (is_equal c.args.atom.now)
    c.args.table.now c.loop-position.position c.entry-entry.result.now _ c.entry-entry.ensures
    (sym c.is_named.ensures ∙ c.if-is_named.true) c.loop-position.invariant

pub loop-position-preserved : goal.loop-position-preserved
loop-position-preserved c =
    pass (remains c.args.grammar.now (fields_at c.args.fields.now) c.args.block.now) (is_equal c.args.atom.now)
    c.args.table.now c.loop-position.position c.entry-entry.result.now c.entry-entry.ensures
    (sym c.is_named.ensures ∙ c.if-is_named.false)
    ∙ c.loop-position.invariant
