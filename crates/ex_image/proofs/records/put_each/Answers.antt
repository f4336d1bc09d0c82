use Rattle.std.proofs.Common.{get_or, [], arith}
use Rattle.std.proofs.lemmas.Option.{slice_get-get_or}
use Rattle.ex_image.specs.Record.{End}
use Rattle.ex_image.proofs.Leaves.{leaves_less, leaves_part, record_here}
use Rattle.ex_image.proofs.records.put_each.Goals as goal

pub returns-in-Failed : goal.returns-in-Failed
returns-in-Failed g c =
    let records = g.S.Series.records c.args.parts.now in
    let there = slice_get-get_or records c.loop-i.i (End, []) (omega arith) in
    leaves_part _ _ _ _ _ _ _ _ c.loop-i.invariant
    (record_here records c.loop-i.i (get_or records c.loop-i.i (End, [])) there) (c.in-Failed.ensures _ there)

pub loop-i-preserved : goal.loop-i-preserved
loop-i-preserved g c =
    let records = g.S.Series.records c.args.parts.now in
    let there = slice_get-get_or records c.loop-i.i (End, []) (omega arith) in
    leaves_less _ _ _ _ _ _ _ _ c.loop-i.invariant
    (record_here records c.loop-i.i (get_or records c.loop-i.i (End, [])) there) (c.in_default.ensures _ there)
