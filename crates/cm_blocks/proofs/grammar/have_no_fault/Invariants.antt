-- The tables up to here have no fault.
use Rattle.std.proofs.Common.{take}
use Rattle.cm_blocks.specs.Well.{AreTables}
use Rattle.cm_blocks.proofs.grammar.have_no_fault.Given as goal

abbrev pub invariant-loop-table : goal.invariant-loop-table
invariant-loop-table l = AreTables (take l.table-index l.tables)
