use Rattle.std.proofs.Common.{◌≡◌, ◌≤◌, drop, length}
use Rattle.std.specs.List.{reduce}
use Rattle.std.specs.Option.{IfSome, option_copied}
use Rattle.cm_text.specs.declared.name.TheConstants.{NAME_LIMIT}
use Rattle.cm_tables.specs.Common.{rests, shared_letters}
use Rattle.cm_tables.specs.Search.{AreNotBelow, Ascends}
use Rattle.cm_tables.proofs.CommonLemmas.{rests_from, sharing}
use Rattle.cm_tables.proofs.common.common_text.Given as goal

abbrev pub invariant-loop-entry : goal.invariant-loop-entry
invariant-loop-entry l = record {
  same : sharing (option_copied l.found) (rests_from l.entry-index (drop l.entry-index l.entry-items) l.atom)
      ≡ reduce shared_letters (rests l.entries l.atom);
  short : IfSome (option_copied l.found) (λ text. length text ≤ NAME_LIMIT);
  above : AreNotBelow l.atom (drop l.entry-index l.entry-items);
  ascends : Ascends (drop l.entry-index l.entry-items);
}
