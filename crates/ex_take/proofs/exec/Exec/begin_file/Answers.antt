use Rattle.ex_take.proofs.Sequels.{typing_barred, typing_first}
use Rattle.ex_take.proofs.exec.Exec.begin_file.Goals as goal
use Rattle.std.proofs.Common.{rules}

pub returns-then-is_empty-clause-obeys : goal.returns-then-is_empty-clause-obeys
returns-then-is_empty-clause-obeys g c =
    typing_first c.args.self.now c.act.new.self c.args.to (g.S.Sink.contents c.args.screen.now) (g.S.Sink.contents c.act.new.screen) c.act.result
    c.args.moment c.args.to (search rules) c.act.ensures.obeys

pub returns-else-is_empty-clause-obeys : goal.returns-else-is_empty-clause-obeys
returns-else-is_empty-clause-obeys g c =
    typing_barred c.args.self.now c.refuse_line.new.self c.args.to (g.S.Sink.contents c.args.screen.now) (g.S.Sink.contents c.refuse_line.new.screen) c.refuse_line.result
    c.args.moment c.args.to (search rules) c.refuse_line.ensures.obeys
