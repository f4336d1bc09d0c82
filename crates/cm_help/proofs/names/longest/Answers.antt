use Rattle.std.proofs.Common.{Some, ap, sym, ◌∙◌}
use Rattle.cm_help.proofs.Columns.{longest_rises, longest_stays}
use Rattle.cm_help.proofs.names.longest.Goals as goal

pub loop-number-preserved-then-not-comes : goal.loop-number-preserved-then-not-comes
loop-number-preserved-then-not-comes g c =
    longest_stays c.args.atom.now ((g.R.Rules.meanings c.args.rules.now).names c.args.id) c.loop-number.number
    c.loop-number.left c.loop-number.size _ c.as_bytes-bytes.result.now
    (c.name_at-name.ensures ∙ ap Some (sym c.as_bytes-bytes.ensures.value))
    (sym c.comes.ensures.value ∙ c.if-not-comes.true) c.loop-number.invariant

pub loop-number-preserved : goal.loop-number-preserved
loop-number-preserved g c =
    longest_rises c.args.atom.now ((g.R.Rules.meanings c.args.rules.now).names c.args.id) c.loop-number.number
    c.loop-number.left c.loop-number.size c.larger-size.result _ c.as_bytes-bytes.result.now
    (c.name_at-name.ensures ∙ ap Some (sym c.as_bytes-bytes.ensures.value))
    (sym c.comes.ensures.value ∙ c.if-not-comes.false) c.larger-size.ensures c.as_bytes-bytes.ensures.within
    c.loop-number.invariant
