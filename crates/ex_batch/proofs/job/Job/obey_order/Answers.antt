use Rattle.std.proofs.Common.{subst}
use Rattle.cm_run.specs.Obey.{Obeys, stage}
use Rattle.ex_take.specs.ExecState.{ExecState}
use Rattle.ex_take.specs.Interpreter.{command_at}
use Rattle.ex_batch.specs.Job.{job_effects}
use Rattle.ex_batch.proofs.Jobs.{barred, unbarred}
use Rattle.ex_batch.proofs.job.Job.obey_order.Goals as goal

pub returns-in-Some-clause-obeys : goal.returns-in-Some-clause-obeys
returns-in-Some-clause-obeys g c =
    subst (λ (it : ExecState). Obeys (stage (g.S.Sink.contents c.args.screen.now) it) (stage (g.S.Sink.contents c.refuse_line.new.screen) c.refuse_line.new.self)
    (job_effects it c.args.moment (command_at it.interpreter c.args.session.now)) c.refuse_line.result) c.self.view_is
    (barred (stage (g.S.Sink.contents c.args.screen.now) c.self.inside.exec) (stage (g.S.Sink.contents c.refuse_line.new.screen) c.refuse_line.new.self) c.refuse_line.result c.self.inside.exec
    c.args.session.now c.args.moment c.command_of-command.result c.bar_of.result c.in-Some.code
    c.command_of-command.ensures.command c.bar_of.ensures c.in-Some.is c.refuse_line.ensures.obeys)

pub returns-in-None-clause-obeys : goal.returns-in-None-clause-obeys
returns-in-None-clause-obeys g c =
    subst (λ (it : ExecState). Obeys (stage (g.S.Sink.contents c.args.screen.now) it) (stage (g.S.Sink.contents c.obey_command.new.screen) c.obey_command.new.self)
    (job_effects it c.args.moment (command_at it.interpreter c.args.session.now)) c.obey_command.result) c.self.view_is
    (unbarred (stage (g.S.Sink.contents c.args.screen.now) c.self.inside.exec) (stage (g.S.Sink.contents c.obey_command.new.screen) c.obey_command.new.self) c.obey_command.result c.self.inside.exec
    c.args.session.now c.args.moment c.command_of-command.result c.bar_of.result
    c.command_of-command.ensures.command c.bar_of.ensures c.in-None.is c.obey_command.ensures.obeys)
