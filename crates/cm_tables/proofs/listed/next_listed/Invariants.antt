use Rattle.std.proofs.Common.{◌≡◌, ◌+◌, drop}
use Rattle.cm_tables.specs.Listing.{first_place, next_listed}
use Rattle.cm_tables.specs.Search.{AreNotBelow, Ascends}
use Rattle.cm_tables.proofs.ListedEntries.{listed_of}
use Rattle.cm_tables.proofs.listed.next_listed.Given as goal

-- the first from here on is the first from the position on
abbrev pub invariant-loop-offset : goal.invariant-loop-offset
invariant-loop-offset l = record {
  same : first_place (listed_of (l.from + l.first + l.offset) (drop l.offset l.rest) l.atom)
      ≡ next_listed l.entries l.from l.atom;
  above : AreNotBelow l.atom (drop l.offset l.rest);
  ascends : Ascends (drop l.offset l.rest);
}
