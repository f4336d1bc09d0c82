-- The rows of what is left of the line are left to be put.
use Rattle.std.proofs.Common.{◌≡◌, ◌<◌, length}
use Rattle.cm_io.proofs.Texts.{Left}
use Rattle.ex_spool.specs.Pages.{line_rows}
use Rattle.ex_spool.specs.Walk.{count_after, rows_after}
use Rattle.ex_spool.specs.declared.body.TheConstants.{PAGE_ROWS}
use Rattle.ex_spool.proofs.body.put_pieces.Given as goal

abbrev pub invariant-loop-rest : goal.invariant-loop-rest
invariant-loop-rest g l = record {
  left : Left g.S.Sink l.fn.out l.out (rows_after l.count (line_rows l.width l.rest))
      (rows_after l.before (line_rows l.width l.line));
  counts : count_after l.count (line_rows l.width l.rest) ≡ count_after l.before (line_rows l.width l.line);
  few : l.count < PAGE_ROWS;
}

abbrev pub decreases-loop-rest : goal.decreases-loop-rest
decreases-loop-rest g l = length l.rest
