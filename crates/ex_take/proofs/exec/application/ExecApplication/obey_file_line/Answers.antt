use Rattle.std.proofs.Common.{sym, ◌∙◌}
use Rattle.ex_take.proofs.Sequels.{file_done, file_open, file_refused}
use Rattle.ex_take.proofs.exec.application.ExecApplication.obey_file_line.Goals as goal

pub returns-in-Done-clause-obeys : goal.returns-in-Done-clause-obeys
returns-in-Done-clause-obeys g c =
    file_done c.args.self.now c.pass.new.self c.obey_done.new.self c.args.session.now c.args.moment (g.S.Sink.contents c.args.screen.now) (g.S.Sink.contents c.obey_done.new.screen)
    c.obey_done.result c.pass.ensures (sym c.ending.ensures ∙ c.in-Done.is) c.obey_done.ensures.obeys

pub returns-in-Fault-clause-obeys : goal.returns-in-Fault-clause-obeys
returns-in-Fault-clause-obeys g c =
    file_refused c.args.self.now c.pass.new.self c.refuse_line.new.self c.args.session.now c.args.moment (g.S.Sink.contents c.args.screen.now) (g.S.Sink.contents c.refuse_line.new.screen)
    c.refuse_line.result c.pass.ensures _ (sym c.ending.ensures ∙ c.in-Fault.is) c.refuse_line.ensures.obeys

pub returns-in-Open-clause-obeys : goal.returns-in-Open-clause-obeys
returns-in-Open-clause-obeys g c =
    file_open c.args.self.now c.pass.new.self c.settle.new.self c.args.session.now c.args.moment (g.S.Sink.contents c.args.screen.now) (g.S.Sink.contents c.settle.new.screen)
    c.settle.result c.pass.ensures _ (sym c.ending.ensures ∙ c.in-Open.is) c.settle.ensures.obeys
