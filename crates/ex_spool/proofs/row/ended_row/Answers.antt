use Rattle.std.proofs.Common.{length, arith, rules}
use Rattle.ex_spool.proofs.RowLaws.{page_ended, row_ended}
use Rattle.ex_spool.proofs.row.ended_row.Goals as goal

pub returns-clause-row : goal.returns-clause-row
returns-clause-row c =
    row_ended c.printed-row.result c.args.text.now (length c.args.text.now) (search (rules, arith)) c.printed-row.ensures

pub returns-clause-page : goal.returns-clause-page
returns-clause-page c =
    page_ended c.printed-row.result c.args.text.now (length c.args.text.now) (search (rules, arith)) c.printed-row.ensures
