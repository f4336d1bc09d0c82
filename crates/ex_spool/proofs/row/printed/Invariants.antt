-- As many bytes as were taken are there as they are printed.
use Rattle.std.proofs.Common.{◌≡◌, length, take}
use Rattle.ex_spool.specs.Pages.{printed}
use Rattle.ex_spool.specs.declared.row.TheConstants.{ROW_ROOM}
use Rattle.ex_spool.proofs.row.printed.Given as goal

abbrev pub invariant-loop-at : goal.invariant-loop-at
invariant-loop-at l = record {
  size : length l.row ≡ ROW_ROOM;
  done : take l.at l.row ≡ printed (take l.at l.text);
}
