use Rattle.std.proofs.Common.{◌≡◌, ◌++◌, drop, take}
use Rattle.ex_store.specs.Families.{without_demand}
use Rattle.ex_store.proofs.room.clear_demand.Given as goal

abbrev pub invariant-loop-family : goal.invariant-loop-family
invariant-loop-family l = record {
  so_far : take l.family-index l.family-items ++ without_demand (drop l.family-index l.family-items) ≡ without_demand l.initial.family-items;
}
