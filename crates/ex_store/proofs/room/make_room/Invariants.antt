use Rattle.std.proofs.Common.{◌≡◌, ◌≤◌, ◌+◌, true, length, take}
use Rattle.cm_lists.specs.Ascent.{ascends}
use Rattle.ex_store.specs.declared.key.Key.{Key}
use Rattle.ex_store.specs.Families.{EachHasRoom, by_family, rows_of, demand_at}
use Rattle.ex_store.specs.Ready.{count_under}
use Rattle.ex_store.proofs.room.make_room.Given as goal

abbrev pub invariant-loop-change : goal.invariant-loop-change
invariant-loop-change l = record {
  rows : rows_of l.families.items ≡ rows_of l.fn.families.items;
  ascend : ascends by_family l.families.items ≡ true;
  demand : (key : Key) → demand_at key l.families.items ≡ count_under key (take l.change-index l.changes);
  room : EachHasRoom l.families.items;
  lean : length l.families.items ≤ length (rows_of l.fn.families.items) + l.change-index;
}
