use Rattle.std.proofs.Common.{◌≡◌, drop, length}
use Rattle.ex_store.specs.Positions.{all_changed_at}
use Rattle.ex_store.specs.Rows.{with_remark}
use Rattle.ex_store.proofs.marks.remark_all.Given as goal

abbrev pub invariant-loop-at : goal.invariant-loop-at
invariant-loop-at l = record {
  changed : all_changed_at (with_remark l.remark) l.files.rows (drop l.at-index l.positions) ≡ all_changed_at (with_remark l.remark) l.initial.files.rows l.positions;
  size : length l.files.rows ≡ length l.initial.files.rows;
  rooms : l.files.rooms ≡ l.initial.files.rooms;
}
