-- The entries from here on give what all of them do.
use Rattle.std.proofs.Common.{◌≡◌, drop}
use Rattle.std.specs.List.{filter}
use Rattle.cm_tables.specs.Look.{equal_entries}
use Rattle.cm_blocks.specs.Once.{fields_at}
use Rattle.cm_recognise.specs.Remaining.{remains}
use Rattle.cm_recognise.proofs.Choices.{is_equal, left_from}
use Rattle.cm_recognise.proofs.remaining.first_exact.Given as goal

abbrev pub invariant-loop-position : goal.invariant-loop-position
invariant-loop-position l =
    let left = remains l.grammar (fields_at l.fields) l.block in
    left_from left (is_equal l.atom) l.position (drop l.position l.table) ≡ filter left (equal_entries l.table l.atom)
