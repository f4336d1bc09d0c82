use Rattle.std.proofs.Common.{◌≡◌, ◌+◌, ℕ, Option, get_or, length, set, take, unwrap_or, ap, sym, ◌∙◌}
use Rattle.std.proofs.lemmas.Option.{unwrap_or-slice_get}
use Rattle.ex_store.specs.declared.row.Row.{Row}
use Rattle.ex_store.specs.Families.{rows_of, rows_under}
use Rattle.ex_store.specs.Rows.{with_remark}
use Rattle.ex_store.proofs.FamiliesLaws.{ascends_set, rooms_set}
use Rattle.ex_store.proofs.FileNumbersLaws.{counted_set, row_numbered, rows_set_at}
use Rattle.ex_store.proofs.file_numbers.remark_file.Goals as goal

pub returns-clause-rows : goal.returns-clause-rows
returns-clause-rows c = λ (d : Row).
    let families = c.args.families.now in
    let n = c.place_of-n.result.0 in
    let at = c.place_of-n.result.1 in
    let family = get_or families n c.index-families-n.result in
    let inside = c.place_of-n.ensures.file c.index-families-n.result in
    let same : get_or (rows_under family) at d ≡ get_or (rows_of families) (length (rows_of (take n families)) + at) d =
    sym (unwrap_or-slice_get (rows_under family) at d)
    ∙ ap (λ (it : Option Row). unwrap_or it d) (sym (row_numbered families n at c.index-families-n.result c.place_of-n.ensures.family inside))
    ∙ unwrap_or-slice_get (rows_of families) (length (rows_of (take n families)) + at) d in
    rows_set_at families n at c.index-families-n.result c.remark.new.self (with_remark c.args.remark (get_or (rows_under family) at d)) c.place_of-n.ensures.family inside
    (c.remark.ensures.rows d)
    ∙ ap (λ (row : Row). set (rows_of families) (length (rows_of (take n families)) + at) (with_remark c.args.remark row)) same
    ∙ ap (λ (i : ℕ). set (rows_of families) i (with_remark c.args.remark (get_or (rows_of families) i d))) c.place_of-n.ensures.number

pub returns-clause-ascend : goal.returns-clause-ascend
returns-clause-ascend c =
    ascends_set c.args.families.now c.place_of-n.result.0 c.remark.new.self c.index-families-n.result c.requires.families c.remark.ensures.key

pub returns-clause-counted : goal.returns-clause-counted
returns-clause-counted c =
    counted_set 0 c.args.families.now c.place_of-n.result.0 c.index-families-n.result c.remark.new.self c.requires.counted c.place_of-n.ensures.family
    c.remark.ensures.end c.remark.ensures.len

pub returns-clause-rooms : goal.returns-clause-rooms
returns-clause-rooms c =
    rooms_set c.args.families.now c.place_of-n.result.0 c.remark.new.self c.index-families-n.result
    c.remark.ensures.key c.remark.ensures.room
