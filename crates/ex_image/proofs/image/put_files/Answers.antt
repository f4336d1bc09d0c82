use Rattle.ex_image.proofs.Appends.{appends_both, appends_early}
use Rattle.ex_image.proofs.image.put_files.Goals as goal

pub returns-in-Failed-put_each : goal.returns-in-Failed-put_each
returns-in-Failed-put_each g c =
    rw (← c.queue-queue.ensures)
    (appends_early _ _ _ _ _ (appends_both _ _ _ _ _ _ _ c.in_default.ensures c.in-Failed-put_each.ensures))
