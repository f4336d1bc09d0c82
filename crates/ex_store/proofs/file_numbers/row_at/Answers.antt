use Rattle.std.proofs.Common.{slice_get, ap, sym, ◌∙◌}
use Rattle.ex_store.specs.declared.family.Family.{Family}
use Rattle.ex_store.specs.Families.{rows_of, rows_under}
use Rattle.ex_store.proofs.FileNumbersLaws.{row_numbered}
use Rattle.ex_store.proofs.file_numbers.row_at.Goals as goal

pub returns-clause-row : goal.returns-clause-row
returns-clause-row c =
    ap (slice_get (rows_of c.args.families.now)) (sym c.place_of-n.ensures.number)
    ∙ row_numbered c.args.families.now c.place_of-n.result.0 c.place_of-n.result.1 c.index-families-n.result c.place_of-n.ensures.family (c.place_of-n.ensures.file c.index-families-n.result)
    ∙ ap (λ (it : Family). slice_get (rows_under it) c.place_of-n.result.1) (sym c.index-families-n.is)
    ∙ c.file_at.ensures
