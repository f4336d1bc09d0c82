use Rattle.std.proofs.Common.{ap, ◌∙◌}
use Rattle.ex_batch.specs.Control.{order_view}
use Rattle.ex_batch.specs.Batch.{label_next}
use Rattle.ex_batch.proofs.Clocks.{moments_as, moments_same}
use Rattle.ex_batch.proofs.Steps.{order_bad, order_exec, order_goto}
use Rattle.ex_batch.proofs.step.do_order.Goals as goal

pub returns-in-Goto-clause-takes : goal.returns-in-Goto-clause-takes
returns-in-Goto-clause-takes g c = moments_same (λ moments log keys gets.
    order_goto c.args.file.now c.args.place moments c.args.job.now _ _ c.in-Goto.name.now c.label_next.result
    (ap order_view c.in-Goto.is) (c.label_next.ensures ∙ ap (λ it. label_next it) c.place.ensures))

pub returns-in-Exec-clause-takes : goal.returns-in-Exec-clause-takes
returns-in-Exec-clause-takes g c = moments_as c.do_text.ensures.takes (λ given later takes log keys gets.
    order_exec c.args.file.now c.args.place given c.args.job.now _ _ _ c.in-Exec.text.now c.do_text.result
    (ap order_view c.in-Exec.is) (takes log keys gets))

pub returns-in-Bad-clause-takes : goal.returns-in-Bad-clause-takes
returns-in-Bad-clause-takes g c = moments_same (λ moments log keys gets.
    order_bad c.args.file.now c.args.place moments c.args.job.now _ _ (ap order_view c.in-Bad.is))
