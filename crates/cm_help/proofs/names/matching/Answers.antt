use Rattle.std.proofs.Common.{Some, ap, sym, ◌∙◌}
use Rattle.cm_help.proofs.Columns.{one_differs, one_matches}
use Rattle.cm_help.proofs.names.matching.Goals as goal

pub loop-number-preserved-then-not-begins_with : goal.loop-number-preserved-then-not-begins_with
loop-number-preserved-then-not-begins_with g c =
    one_differs c.args.atom.now ((g.R.Rules.meanings c.args.rules.now).names c.args.id) c.loop-number.number
    c.loop-number.count _ c.as_bytes.result.now (c.name_at.ensures ∙ ap Some (sym c.as_bytes.ensures.value))
    (sym c.begins_with.ensures ∙ c.if-not-begins_with.true) c.loop-number.invariant

pub loop-number-preserved : goal.loop-number-preserved
loop-number-preserved g c =
    one_matches c.args.atom.now ((g.R.Rules.meanings c.args.rules.now).names c.args.id) c.loop-number.number
    c.loop-number.count _ c.as_bytes.result.now (c.name_at.ensures ∙ ap Some (sym c.as_bytes.ensures.value))
    (sym c.begins_with.ensures ∙ c.if-not-begins_with.false) c.loop-number.invariant
