use Rattle.cm_io_tests.proofs.Images.{all_pieces}
use Rattle.cm_io_tests.proofs.pieces.is_written.Goals as goal

pub returns-in-None : goal.returns-in-None
returns-in-None c =
    rw (c.in-None.is)
    (rw (all_pieces c.args.image.now _ c.count_pieces.ensures.value) at c.is_of_pieces-in-None.ensures)
