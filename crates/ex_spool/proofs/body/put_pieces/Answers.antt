use Rattle.std.proofs.Common.{◌∙◌}
use Rattle.cm_io.proofs.Texts.{left_less, left_nothing}
use Rattle.ex_spool.proofs.RowLaws.{piece_left, piece_counts, end_left, end_counts}
use Rattle.ex_spool.proofs.body.put_pieces.Goals as goal

pub loop-rest-preserved : goal.loop-rest-preserved
loop-rest-preserved g c = record {
  left = left_less _ _ _ _ _ _ _ _ c.put_row.ensures c.loop-rest.invariant.left
      (piece_left c.args.width c.loop-rest.rest.now c.loop-rest.count c.split_at.result.0.now c.split_at.result.1.now c.next_row-count.result
      c.requires.some c.loop-rest-test.true c.split_at.ensures.front c.split_at.ensures.back c.next_row-count.ensures.next);
  counts = piece_counts c.args.width c.loop-rest.rest.now c.loop-rest.count c.split_at.result.1.now c.next_row-count.result
      c.requires.some c.loop-rest-test.true c.split_at.ensures.back c.next_row-count.ensures.next
      ∙ c.loop-rest.invariant.counts;
  few = c.next_row-count.ensures.few;
}

pub returns-clause-rows : goal.returns-clause-rows
returns-clause-rows g c =
    left_nothing _ _ _ _ (left_less _ _ _ _ _ _ _ _ c.put_row-2.ensures c.loop-rest.invariant.left
    (end_left c.args.width c.loop-rest.rest.now c.loop-rest.count c.requires.some c.loop-rest-test.false))

pub returns-clause-count : goal.returns-clause-count
returns-clause-count g c =
    c.next_row.ensures.next
    ∙ end_counts c.args.width c.loop-rest.rest.now c.loop-rest.count c.requires.some c.loop-rest-test.false
    ∙ c.loop-rest.invariant.counts
