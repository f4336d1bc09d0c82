use Rattle.std.proofs.Common.{◌≡◌, ◌+◌, ◌++◌, drop, map, take}
use Rattle.ex_store.specs.Families.{rows_of}
use Rattle.ex_store.specs.Rows.{pages_marked}
use Rattle.ex_store.proofs.SweepLaws.{swept}
use Rattle.ex_store.proofs.sweep.drop_marked.Given as goal

abbrev pub invariant-loop-family : goal.invariant-loop-family
invariant-loop-family l = record {
  swept_are : take l.family-index l.families ++ map (swept l.directory) (drop l.family-index l.families) ≡ map (swept l.directory) l.initial.families;
  counted : l.pages + pages_marked l.directory (rows_of (drop l.family-index l.families)) ≡ pages_marked l.directory (rows_of l.initial.families);
}
