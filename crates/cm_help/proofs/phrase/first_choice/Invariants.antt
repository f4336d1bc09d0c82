-- The first of the entries from a position on is the first of all.
use Rattle.std.proofs.Common.{◌≡◌, ◌-◌, length}
use Rattle.cm_blocks.specs.Once.{fields_at, may_come}
use Rattle.cm_help.specs.Phrase.{choices}
use Rattle.cm_help.proofs.phrase.first_choice.Given as goal

abbrev pub invariant-loop-position : goal.invariant-loop-position
invariant-loop-position l =
    let may = may_come l.grammar (fields_at l.fields) l.block in
    choices may l.from l.table l.atom ≡ choices may 0 l.table l.atom

abbrev pub decreases-loop-position : goal.decreases-loop-position
decreases-loop-position l = length l.table - l.from
