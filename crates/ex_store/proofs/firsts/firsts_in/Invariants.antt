use Rattle.std.proofs.Common.{◌≡◌, ◌++◌, drop, length}
use Rattle.ex_store.specs.State.{firsts_in}
use Rattle.ex_store.proofs.firsts.firsts_in.Given as goal

abbrev pub invariant-loop-i : goal.invariant-loop-i
invariant-loop-i l = record {
  found : l.firsts.items ++ firsts_in (drop l.i l.directories.list) l.files.rows ≡ firsts_in l.directories.list l.files.rows;
  size : length l.firsts.items ≡ l.i;
}
