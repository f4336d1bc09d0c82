use Rattle.std.proofs.Common.{ap, arith, sym, ◌∙◌}
use Rattle.ex_generations.specs.Generations.{pages}
use Rattle.ex_store.proofs.SweepLaws.{is_turn}
use Rattle.ex_store.proofs.sweep.pages_in.Goals as goal

pub loop-family-preserved-then-not-is_in : goal.loop-family-preserved-then-not-is_in
loop-family-preserved-then-not-is_in c =
    let turn = is_turn c.args.directory.now c.args.families.now c.loop-family.family-index c.family-item.result c.loop-family-test.true c.family-item.is c.requires.short in
    omega (arith, turn.passed (sym c.is_in.ensures ∙ c.if-not-is_in.true), c.loop-family.invariant)

pub add_pages-pages-requires-clause-short : goal.add_pages-pages-requires-clause-short
add_pages-pages-requires-clause-short c =
    let turn = is_turn c.args.directory.now c.args.families.now c.loop-family.family-index c.family-item.result c.loop-family-test.true c.family-item.is c.requires.short in
    rw c.files.ensures.value turn.short

pub add_pages-pages-requires-clause-few : goal.add_pages-pages-requires-clause-few
add_pages-pages-requires-clause-few c =
    let turn = is_turn c.args.directory.now c.args.families.now c.loop-family.family-index c.family-item.result c.loop-family-test.true c.family-item.is c.requires.short in
    omega (arith, turn.counted (sym c.is_in.ensures ∙ c.if-not-is_in.false), turn.most, c.requires.few, ap pages c.files.ensures.value, c.loop-family.invariant)

pub loop-family-preserved : goal.loop-family-preserved
loop-family-preserved c =
    let turn = is_turn c.args.directory.now c.args.families.now c.loop-family.family-index c.family-item.result c.loop-family-test.true c.family-item.is c.requires.short in
    omega (arith, turn.counted (sym c.is_in.ensures ∙ c.if-not-is_in.false), c.add_pages-pages.ensures, ap pages c.files.ensures.value, c.loop-family.invariant)
