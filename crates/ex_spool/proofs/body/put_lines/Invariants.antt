-- The rows of the lines that are left are left to be put.
use Rattle.std.proofs.Common.{◌≡◌, ◌<◌, length}
use Rattle.cm_io.proofs.Texts.{Left}
use Rattle.ex_spool.specs.Pages.{rows_of}
use Rattle.ex_spool.specs.Walk.{count_after, rows_after}
use Rattle.ex_spool.specs.declared.body.TheConstants.{PAGE_ROWS}
use Rattle.ex_spool.proofs.body.put_lines.Given as goal

abbrev pub invariant-loop-first : goal.invariant-loop-first
invariant-loop-first g l = record {
  left : Left g.S.Sink l.fn.out l.out (rows_after l.count (rows_of l.width l.rest))
      (rows_after 0 (rows_of l.width l.bytes));
  counts : count_after l.count (rows_of l.width l.rest) ≡ count_after 0 (rows_of l.width l.bytes);
  few : l.count < PAGE_ROWS;
}

abbrev pub decreases-loop-first : goal.decreases-loop-first
decreases-loop-first g l = length l.rest
