use Rattle.std.proofs.Common.{◌≡◌, ◌≤◌, ◌+◌, ◌++◌, length, take, drop}
use Rattle.ex_store.specs.declared.limits.TheConstants.{ROW_LIMIT}
use Rattle.ex_store.specs.Families.{counted, rows_of}
use Rattle.ex_store.proofs.file_numbers.count.Given as goal

abbrev pub invariant-loop-i : goal.invariant-loop-i
invariant-loop-i l = record {
  so_far : take l.i l.families.items ++ counted l.before (drop l.i l.families.items) ≡ counted 0 l.fn.families.items;
  few : l.before + length (rows_of (drop l.i l.families.items)) ≤ ROW_LIMIT;
  len : length l.families.items ≡ length l.fn.families.items;
}
