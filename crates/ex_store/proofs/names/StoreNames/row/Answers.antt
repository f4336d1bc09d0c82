use Rattle.std.proofs.Common.{arith}
use Rattle.ex_store.specs.Views.{row_of_view}
use Rattle.ex_store.proofs.RowsInLaws.{catalogue_row, catalogue_rows}
use Rattle.ex_store.proofs.names.StoreNames.row.Goals as goal

-- src/names.rt:108:24
pub row_at-row-requires-clause-row : goal.row_at-row-requires-clause-row
row_at-row-requires-clause-row c =
    let within = c.requires.row in
    let sizes = catalogue_rows c.args.self.now.state c.args.directory in
    omega arith

-- src/names.rt:107:5
pub returns-clause-value : goal.returns-clause-value
returns-clause-value c =
    catalogue_row c.args.self.now.state c.args.directory c.args.i (row_of_view c.row_at-row.result) c.row_at-row.ensures.row
    c.as_str.result.now c.as_str-2.result.now c.as_str.ensures.value c.as_str-2.ensures.value
