use Rattle.std.proofs.Common.{◌≡◌, ◌≤◌, true, drop, length, nat_lt}
use Rattle.std.specs.List.{list_all}
use Rattle.ex_generations.specs.declared.file.TheConstants.{FILE_LIMIT}
use Rattle.ex_store.specs.declared.limits.TheConstants.{STORE_LIMIT}
use Rattle.ex_store.specs.Appending.{concatenation}
use Rattle.ex_store.specs.Positions.{elements_at}
use Rattle.ex_store.specs.Rows.{total}
use Rattle.ex_store.proofs.append.concatenate.Given as goal

abbrev pub invariant-loop-at : goal.invariant-loop-at
invariant-loop-at l = record {
  so_far : concatenation l.all l.bytes.items (elements_at l.files.rows (drop l.at-index l.positions))
      ≡ concatenation (total l.files.rows) l.initial.bytes.items (elements_at l.files.rows l.positions);
  within : list_all (λ at. nat_lt at (length l.files.rows)) (drop l.at-index l.positions) ≡ true;
  small : l.all ≤ STORE_LIMIT;
  short : length l.bytes.items ≤ FILE_LIMIT;
}
