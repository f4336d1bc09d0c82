use Rattle.std.proofs.Common.{arith}
use Rattle.ex_store.specs.Views.{row_of_view}
use Rattle.ex_store.specs.Rows.{by_row}
use Rattle.ex_image.specs.LineViews.{row_said}
use Rattle.ex_image.proofs.ReaderFaults.{above_last}
use Rattle.ex_image.proofs.faults.is_file_above.Goals as goal

pub returns-in-Some : goal.returns-in-Some
returns-in-Some c =
    rw (above_last by_row c.args.parts.now.rows c.in-Some.last (row_of_view c.row.result) (row_said c.args.it.now) (omega arith) c.row.ensures)
    c.is_below.ensures
