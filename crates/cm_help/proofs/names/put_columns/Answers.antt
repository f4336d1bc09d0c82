use Rattle.std.proofs.Common.{Some, ap, sym, ◌∙◌}
use Rattle.cm_io.proofs.Texts.{left_less}
use Rattle.cm_help.proofs.Columns.{columns_split, next_passes}
use Rattle.cm_help.proofs.names.put_columns.Goals as goal

pub loop-number-preserved-then-not-comes : goal.loop-number-preserved-then-not-comes
loop-number-preserved-then-not-comes g c = (
  rw (← next_passes c.args.atom.now ((g.R.Rules.meanings c.args.rules.now).names c.args.id) c.loop-number.number
      c.loop-number.left c.as_bytes-bytes.result.now (c.name_at-name.ensures ∙ ap Some (sym c.as_bytes-bytes.ensures.value))
      (sym c.comes.ensures.value ∙ c.if-not-comes.true)) c.loop-number.invariant.0,
  c.loop-number.invariant.1,
)

pub loop-number-preserved : goal.loop-number-preserved
loop-number-preserved g c = (
  left_less _ _ _ _ _ _ _ _ c.put_name.ensures c.loop-number.invariant.0
      (columns_split c.args.atom.now ((g.R.Rules.meanings c.args.rules.now).names c.args.id) c.loop-number.number
      c.loop-number.left c.args.width c.loop-number.taken c.loop-number.size c.fits-is_in_row.result
      c.taken_with-taken.result c.as_bytes-bytes.result.now
      (c.name_at-name.ensures ∙ ap Some (sym c.as_bytes-bytes.ensures.value))
      (sym c.comes.ensures.value ∙ c.if-not-comes.false) c.fits-is_in_row.ensures c.taken_with-taken.ensures.value),
  c.taken_with-taken.ensures.within,
)
