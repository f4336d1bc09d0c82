use Rattle.std.proofs.Common.{rules}
use Rattle.cm_io.proofs.Writers.{finish_puts}
use Rattle.ex_program.proofs.program.show_summary.Goals as goal

-- what is written is put, all of it or a part
pub returns-in-Done : goal.returns-in-Done
returns-in-Done g c =
    let told = finish_puts g.S.Sink _ _ _ _ _ _ c.finish.ensures c.put.ensures c.new-out.ensures in
    search (rules, told.bytes, told.cause)

pub returns-in-Failed : goal.returns-in-Failed
returns-in-Failed g c =
    let told = finish_puts g.S.Sink _ _ _ _ _ _ c.finish.ensures c.put.ensures c.new-out.ensures in
    search (rules, told.bytes, told.cause)
