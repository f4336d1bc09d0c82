use Rattle.std.proofs.Common.{◌≡◌, ◌++◌, true, drop, length, nat_lt}
use Rattle.std.specs.List.{list_all}
use Rattle.ex_store.specs.Appending.{pairs_to}
use Rattle.ex_store.specs.Positions.{elements_at}
use Rattle.ex_store.proofs.append.pairs_to.Given as goal

abbrev pub invariant-loop-at : goal.invariant-loop-at
invariant-loop-at l = record {
  so_far : l.pairs.items ++ pairs_to l.target (elements_at l.files.rows (drop l.at-index l.positions))
      ≡ pairs_to l.target (elements_at l.files.rows l.positions);
  within : list_all (λ at. nat_lt at (length l.files.rows)) (drop l.at-index l.positions) ≡ true;
}
