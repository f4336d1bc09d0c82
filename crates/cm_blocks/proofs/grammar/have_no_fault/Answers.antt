use Rattle.std.proofs.Common.{◌≡◌, List, None, subst, arith}
use Rattle.std.proofs.lemmas.List.{take_all}
use Rattle.std.proofs.lemmas.List.Elements.{All-more}
use Rattle.cm_tables.specs.declared.entry.Entry.{Entry}
use Rattle.cm_tables.specs.Order.{table_fault}
use Rattle.cm_blocks.specs.Well.{AreTables}
use Rattle.cm_blocks.proofs.grammar.have_no_fault.Goals as goal

pub loop-table-preserved : goal.loop-table-preserved
loop-table-preserved c =
    let here = subst (λ (table : List Entry). table_fault table ≡ None) c.table-item.is c.has_no_fault.ensures in
    All-more (λ (table : List Entry). table_fault table ≡ None) c.args.tables.now c.loop-table.table-index c.table-item.result
    (omega arith) c.loop-table.invariant here

pub returns : goal.returns
returns c = subst AreTables (take_all c.loop-table.table-index c.args.tables.now (omega arith)) c.loop-table.invariant
