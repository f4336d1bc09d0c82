use Rattle.std.proofs.Common.{◌≡◌, true}
use Rattle.cm_lists.specs.Ascent.{ascends}
use Rattle.ex_store.specs.Families.{by_family, rooms_of, rows_of}
use Rattle.ex_store.specs.Ready.{rows_after_all}
use Rattle.ex_store.proofs.room.change_families.Given as goal

abbrev pub invariant-loop-change : goal.invariant-loop-change
invariant-loop-change l = record {
  done : rows_of l.families ≡ rows_after_all (rows_of l.fn.families) l.yielded;
  ascend : ascends by_family l.families ≡ true;
  rooms : rooms_of l.families ≡ rooms_of l.fn.families;
}
