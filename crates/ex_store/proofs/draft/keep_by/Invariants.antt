use Rattle.std.proofs.Common.{◌≡◌, ◌++◌, drop, length, map, take}
use Rattle.ex_store.specs.Draft.{kept_by}
use Rattle.ex_store.proofs.draft.keep_by.Given as goal

abbrev pub invariant-loop-i : goal.invariant-loop-i
invariant-loop-i l = record {
  kept : take l.i l.files.rows ++ map (kept_by l.directories.list) (drop l.i l.files.rows) ≡ map (kept_by l.directories.list) l.fn.files.rows;
  size : length l.files.rows ≡ length l.fn.files.rows;
}
