-- The entries from a position on are left to be put.
use Rattle.std.proofs.Common.{◌-◌, length}
use Rattle.cm_io.proofs.Texts.{Left}
use Rattle.cm_blocks.specs.Once.{fields_at, may_come}
use Rattle.cm_help.specs.Phrase.{choices, entry_lines}
use Rattle.cm_help.proofs.phrase.put_entries.Given as goal

abbrev pub invariant-loop-position : goal.invariant-loop-position
invariant-loop-position g l =
    let may = may_come l.grammar (fields_at l.fields) l.block in
    Left g.S.Sink l.fn.out l.out
    (entry_lines l.switch (choices may l.from l.table l.atom)) (entry_lines l.switch (choices may 0 l.table l.atom))

abbrev pub decreases-loop-position : goal.decreases-loop-position
decreases-loop-position g l = length l.table - l.from
