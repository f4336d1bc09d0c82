use Rattle.std.proofs.Common.{sym, ◌∙◌}
use Rattle.ex_batch.proofs.Clocks.{moments_as, moments_same}
use Rattle.ex_batch.proofs.Steps.{unless_none, unless_some}
use Rattle.ex_batch.proofs.step.do_unless_refused.Goals as goal

pub returns-in-Some-clause-takes : goal.returns-in-Some-clause-takes
returns-in-Some-clause-takes g c = moments_same (λ moments log keys gets.
    unless_some c.args.file.now c.args.place moments c.args.job.now _ c.args.job.now.stop c.in-Some.code _
    (sym c.stop.ensures ∙ c.in-Some.is))

pub returns-in-None-clause-takes : goal.returns-in-None-clause-takes
returns-in-None-clause-takes g c = moments_as c.do_order.ensures.takes (λ given later takes log keys gets.
    unless_none c.args.file.now c.args.place given c.args.job.now _ _ c.args.job.now.stop _ c.do_order.result
    (sym c.stop.ensures ∙ c.in-None.is) (takes log keys gets))
