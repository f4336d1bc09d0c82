use Rattle.ex_image.proofs.Appends.{appends_both}
use Rattle.ex_image.proofs.records.put_file.Goals as goal

pub returns : goal.returns
returns g c =
    appends_both _ _ _ _ _ _ _ (appends_both _ _ _ _ _ _ _ c.in_default.ensures c.in_default-append.ensures)
    c.append-3.ensures
