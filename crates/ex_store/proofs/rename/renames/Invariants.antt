use Rattle.std.proofs.Common.{◌≡◌, true, drop, length}
use Rattle.cm_lists.specs.Ascent.{ascends}
use Rattle.ex_store.specs.Families.{by_family, rows_of}
use Rattle.std.specs.List.{list_all}
use Rattle.ex_store.specs.Ready.{is_lawful}
use Rattle.ex_store.specs.Positions.{elements_at}
use Rattle.ex_store.proofs.RenamedLaws.{IsRenaming}
use Rattle.ex_store.proofs.rename.renames.Given as goal

abbrev pub invariant-loop-at : goal.invariant-loop-at
invariant-loop-at l = record {
  renaming : IsRenaming l.directories.list l.from l.to l.files.rows (elements_at l.files.rows l.positions)
      (elements_at l.files.rows (drop l.at-index l.positions)) l.simulation.row_changes.items l.simulation.pairs.items (rows_of l.simulation.families.items);
  families : ascends by_family l.simulation.families.items ≡ true;
  count : length l.simulation.pairs.items ≡ l.at-index;
  lawful : list_all is_lawful l.simulation.row_changes.items ≡ true;
}
