use Rattle.cm_io.proofs.Texts.{left_less}
use Rattle.ex_commands.proofs.Printings.{first_left, run_left}
use Rattle.ex_commands.proofs.printing.put_printing.Goals as goal

pub loop-rest-preserved : goal.loop-rest-preserved
loop-rest-preserved g c =
    left_less _ _ _ _ _ _ _ _ c.put_first-rest.ensures.written
    (left_less _ _ _ _ _ _ _ _ c.put.ensures c.loop-rest.invariant
    (run_left c.loop-rest.rest.now c.split_at.result.0.now c.split_at.result.1.now c.printing_len.result c.printing_len.ensures.size
    c.split_at.ensures.front c.split_at.ensures.back))
    (first_left c.split_at.result.1.now c.put_first-rest.result.now c.put_first-rest.ensures.rest)
