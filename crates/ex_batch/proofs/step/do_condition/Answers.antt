use Rattle.ex_batch.proofs.Clocks.{moments_as, moments_same}
use Rattle.ex_batch.proofs.Steps.{condition_met, condition_unmet}
use Rattle.ex_batch.proofs.step.do_condition.Goals as goal

pub returns-then-met-clause-takes : goal.returns-then-met-clause-takes
returns-then-met-clause-takes g c = moments_as c.do_order.ensures.takes (λ given later takes log keys gets.
    condition_met c.args.file.now c.args.place given c.args.job.now c.forgive.new.self (g.S.Sink.contents c.args.screen.now) log keys gets
    c.args.steps.now c.forgive.ensures _ c.args.met _ c.do_order.result c.if-met.true (takes log keys gets))

pub returns-else-met-clause-takes : goal.returns-else-met-clause-takes
returns-else-met-clause-takes g c = moments_same (λ moments log keys gets.
    condition_unmet c.args.file.now c.args.place moments c.args.job.now c.forgive.new.self (g.S.Sink.contents c.args.screen.now) log keys gets
    c.args.steps.now c.forgive.ensures c.args.met _ c.if-met.false)
