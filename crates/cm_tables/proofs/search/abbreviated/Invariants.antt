use Rattle.std.proofs.Common.{◌≡◌, ◌+◌, ◌≤◌, drop, length}
use Rattle.cm_tables.specs.Look.{abbreviated}
use Rattle.cm_tables.specs.Search.{AreNotBelow, Ascends, candidates_from, wholes}
use Rattle.cm_tables.proofs.SearchLemmas.{joined}
use Rattle.cm_tables.proofs.StartLaws.{left}
use Rattle.cm_tables.proofs.search.abbreviated.Given as goal

abbrev pub invariant-loop-offset : goal.invariant-loop-offset
invariant-loop-offset l = record {
  same : joined l.found (candidates_from (l.start + l.offset) (drop l.offset l.entries) l.atom)
      ≡ abbreviated (candidates_from l.start l.entries l.atom);
  above : AreNotBelow l.atom (drop l.offset l.entries);
  ascends : Ascends (drop l.offset l.entries);
  near : l.reads + left l.found (drop l.offset l.entries) l.atom ≤ l.fn.reads + (length (wholes l.entries l.atom) + 2);
}
