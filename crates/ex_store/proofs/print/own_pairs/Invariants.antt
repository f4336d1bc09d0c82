use Rattle.std.proofs.Common.{◌≡◌, ◌++◌, true, drop, length, nat_lt}
use Rattle.std.specs.List.{list_all}
use Rattle.ex_store.specs.Positions.{elements_at}
use Rattle.ex_store.specs.Printing.{own_pairs}
use Rattle.ex_store.proofs.print.own_pairs.Given as goal

abbrev pub invariant-loop-at : goal.invariant-loop-at
invariant-loop-at l = record {
  so_far : l.pairs.items ++ own_pairs (elements_at l.files.rows (drop l.at-index l.positions))
      ≡ own_pairs (elements_at l.files.rows l.positions);
  within : list_all (λ at. nat_lt at (length l.files.rows)) (drop l.at-index l.positions) ≡ true;
}
