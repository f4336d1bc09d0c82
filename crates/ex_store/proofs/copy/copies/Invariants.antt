use Rattle.std.proofs.Common.{◌≡◌, true, List, drop, length}
use Rattle.cm_lists.specs.Ascent.{ascends}
use Rattle.ex_store.specs.Families.{by_family, rows_of}
use Rattle.std.specs.List.{list_all}
use Rattle.ex_store.specs.Ready.{is_lawful}
use Rattle.ex_store.specs.Positions.{elements_at}
use Rattle.ex_store.specs.Rows.{AreAlike}
use Rattle.ex_store.specs.WellFormed.{AreRows}
use Rattle.ex_store.specs.declared.row.Row.{Row}
use Rattle.ex_store.proofs.AllCopiedLaws.{IsCopying}
use Rattle.ex_store.proofs.copy.copies.Given as goal

abbrev pub invariant-loop-at : goal.invariant-loop-at
invariant-loop-at l = record {
  copying : (rows : List Row) → AreAlike l.files.rows rows → AreRows l.directories.list rows
      → IsCopying l.directories.list l.retention l.moment l.to rows (elements_at l.files.rows l.positions)
      (elements_at l.files.rows (drop l.at-index l.positions)) l.simulation.row_changes.items l.simulation.pairs.items (rows_of l.simulation.families.items) l.count l.bytes;
  families : ascends by_family l.simulation.families.items ≡ true;
  count : length l.simulation.pairs.items ≡ l.at-index;
  lawful : list_all is_lawful l.simulation.row_changes.items ≡ true;
}
