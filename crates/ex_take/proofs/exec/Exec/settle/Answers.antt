use Rattle.std.proofs.Common.{rules}
use Rattle.ex_take.proofs.Sequels.{settles_on, settles_over}
use Rattle.ex_take.proofs.exec.Exec.settle.Goals as goal

pub returns-then-is_over-clause-obeys : goal.returns-then-is_over-clause-obeys
returns-then-is_over-clause-obeys g c =
    settles_over c.args.self.now c.end_file.new.self (g.S.Sink.contents c.args.screen.now) (g.S.Sink.contents c.end_file.new.screen) c.end_file.result
    (search rules) c.end_file.ensures.obeys

pub returns-else-is_over-clause-obeys : goal.returns-else-is_over-clause-obeys
returns-else-is_over-clause-obeys g c =
    settles_on c.args.self.now c.look_ahead.new.self (g.S.Sink.contents c.args.screen.now) (g.S.Sink.contents c.look_ahead.new.screen) c.look_ahead.result
    (search rules) c.look_ahead.ensures.obeys
