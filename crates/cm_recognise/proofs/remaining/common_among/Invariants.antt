-- The entries from here on, after what those before them share, share what all of them do.
use Rattle.std.proofs.Common.{◌≡◌, ◌≤◌, ℕ, drop, length, map}
use Rattle.std.specs.List.{reduce}
use Rattle.std.specs.Option.{IfSome, option_copied}
use Rattle.cm_text.specs.declared.name.TheConstants.{NAME_LIMIT}
use Rattle.cm_tables.specs.declared.entry.Entry.{Entry}
use Rattle.cm_tables.specs.Common.{shared_letters}
use Rattle.cm_blocks.specs.Once.{fields_at}
use Rattle.cm_recognise.specs.Remaining.{remains, rests_among}
use Rattle.cm_recognise.proofs.Choices.{is_candidate, left_from, sharing}
use Rattle.cm_recognise.proofs.remaining.common_among.Given as goal

abbrev pub invariant-loop-position : goal.invariant-loop-position
invariant-loop-position l = record {
  same : sharing (option_copied l.found)
      (map (λ (e : ℕ × Entry). drop (length l.atom) e.1.text)
      (left_from (remains l.grammar (fields_at l.fields) l.block) (is_candidate l.atom) l.position (drop l.position l.table)))
      ≡ reduce shared_letters (rests_among (remains l.grammar (fields_at l.fields) l.block) l.table l.atom);
  short : IfSome (option_copied l.found) (λ text. length text ≤ NAME_LIMIT);
}
