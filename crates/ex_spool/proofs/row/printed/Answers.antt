use Rattle.std.proofs.Common.{length-set, ◌∙◌, arith}
use Rattle.ex_spool.proofs.RowLaws.{byte_more}
use Rattle.ex_spool.proofs.row.printed.Goals as goal

pub loop-at-preserved : goal.loop-at-preserved
loop-at-preserved c = record {
  size = length-set _ _ _ ∙ c.loop-at.invariant.size;
  done = byte_more c.loop-at.row c.args.text.now c.loop-at.at c.printing_byte.result (omega (arith, c.loop-at.invariant.size, c.requires, c.loop-at-test.true))
      (omega (arith, c.loop-at-test.true)) c.printing_byte.ensures c.loop-at.invariant.done;
}
