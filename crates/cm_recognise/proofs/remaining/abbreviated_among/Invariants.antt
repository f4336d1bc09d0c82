-- The entries from here on, after the one that is found so far, give what all of them do.
use Rattle.std.proofs.Common.{◌≡◌, drop}
use Rattle.std.specs.List.{filter}
use Rattle.cm_tables.specs.Look.{abbreviated, candidates}
use Rattle.cm_blocks.specs.Once.{fields_at}
use Rattle.cm_recognise.specs.Remaining.{remains}
use Rattle.cm_recognise.proofs.Choices.{is_candidate, joined, left_from}
use Rattle.cm_recognise.proofs.remaining.abbreviated_among.Given as goal

abbrev pub invariant-loop-position : goal.invariant-loop-position
invariant-loop-position l =
    let left = remains l.grammar (fields_at l.fields) l.block in
    joined l.found (left_from left (is_candidate l.atom) l.position (drop l.position l.table))
    ≡ abbreviated (filter left (candidates l.table l.atom))
