use Rattle.std.proofs.Common.{subst, sym, ◌∙◌}
use Rattle.cm_blocks.specs.declared.field.Ending.TheVariants as ending
use Rattle.cm_run.specs.Obey.{Obeys, stage}
use Rattle.cm_run.proofs.Acts.{obeys_nothing}
use Rattle.ex_take.specs.ExecState.{ExecState}
use Rattle.ex_batch.specs.Job.{order_effects}
use Rattle.ex_batch.proofs.Jobs.{order_ended}
use Rattle.ex_batch.proofs.job.Job.take_order.Goals as goal

pub returns-in-Done-clause-obeys : goal.returns-in-Done-clause-obeys
unfolding order_effects
returns-in-Done-clause-obeys g c =
    order_ended (stage (g.S.Sink.contents c.args.screen.now) c.args.self.now) (stage (g.S.Sink.contents c.obey_order.new.screen) c.obey_order.new.self) c.obey_order.result c.args.self.now
    c.args.session.now c.args.moment ending.Done (sym c.ending.ensures ∙ c.in-Done.is) c.obey_order.ensures.obeys

pub returns-in-Fault-clause-obeys : goal.returns-in-Fault-clause-obeys
unfolding order_effects
returns-in-Fault-clause-obeys g c =
    subst (λ (it : ExecState). Obeys (stage (g.S.Sink.contents c.args.screen.now) it) (stage (g.S.Sink.contents c.refuse_line.new.screen) c.refuse_line.new.self)
    (order_effects it c.args.session.now c.args.moment c.args.session.now.ending) c.refuse_line.result) c.self.view_is
    (order_ended (stage (g.S.Sink.contents c.args.screen.now) c.self.inside.exec) (stage (g.S.Sink.contents c.refuse_line.new.screen) c.refuse_line.new.self) c.refuse_line.result c.self.inside.exec
    c.args.session.now c.args.moment _ (sym c.ending.ensures ∙ c.in-Fault.is) c.refuse_line.ensures.obeys)

pub returns-in-Open-clause-obeys : goal.returns-in-Open-clause-obeys
unfolding order_effects
returns-in-Open-clause-obeys g c =
    order_ended (stage (g.S.Sink.contents c.args.screen.now) c.args.self.now) (stage (g.S.Sink.contents c.args.screen.now) c.args.self.now) _ c.args.self.now
    c.args.session.now c.args.moment _ (sym c.ending.ensures ∙ c.in-Open.is)
    (obeys_nothing (g.S.Sink.contents c.args.screen.now) c.args.self.now)
