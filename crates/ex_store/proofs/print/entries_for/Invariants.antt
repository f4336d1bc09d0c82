use Rattle.std.proofs.Common.{◌≡◌, ◌++◌, true, drop, length, map, nat_lt}
use Rattle.std.specs.List.{list_all}
use Rattle.ex_store.specs.Positions.{elements_at}
use Rattle.ex_store.specs.Printing.{entry_for}
use Rattle.ex_store.proofs.print.entries_for.Given as goal

abbrev pub invariant-loop-at : goal.invariant-loop-at
invariant-loop-at l = record {
  so_far : l.entries.items ++ map (entry_for l.request) (elements_at l.files.rows (drop l.at-index l.positions))
      ≡ map (entry_for l.request) (elements_at l.files.rows l.positions);
  within : list_all (λ at. nat_lt at (length l.files.rows)) (drop l.at-index l.positions) ≡ true;
}
