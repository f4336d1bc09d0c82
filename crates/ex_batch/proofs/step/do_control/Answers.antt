use Rattle.std.proofs.Common.{ap, ◌∙◌}
use Rattle.ex_batch.specs.Control.{control_view}
use Rattle.ex_batch.specs.Batch.{is_met}
use Rattle.ex_batch.proofs.Clocks.{moments_as, moments_same}
use Rattle.ex_batch.proofs.Steps.{control_condition, control_label, control_nothing, control_plain}
use Rattle.ex_batch.proofs.step.do_control.Goals as goal

pub returns-in-Nothing-clause-takes : goal.returns-in-Nothing-clause-takes
returns-in-Nothing-clause-takes g c = moments_same (λ moments log keys gets.
    control_nothing c.args.file.now c.args.place moments c.args.job.now _ _ (ap control_view c.in-Nothing.is))

pub returns-in-Condition-clause-takes : goal.returns-in-Condition-clause-takes
returns-in-Condition-clause-takes g c = moments_as c.do_condition.ensures.takes (λ given later takes log keys gets.
    control_condition c.args.file.now c.args.place given c.args.job.now _ _ _ c.in-Condition.error c.is_met.result _
    c.do_condition.result (ap control_view c.in-Condition.is) (c.is_met.ensures ∙ ap (λ it. is_met c.in-Condition.error it) c.stop.ensures)
    (takes log keys gets))

pub returns-in-Label-clause-takes : goal.returns-in-Label-clause-takes
returns-in-Label-clause-takes g c = moments_same (λ moments log keys gets.
    control_label c.args.file.now c.args.place moments c.args.job.now _ _ _ c.after_label.result
    (ap control_view c.in-Label.is) c.after_label.ensures)

pub returns-in-Plain-clause-takes : goal.returns-in-Plain-clause-takes
returns-in-Plain-clause-takes g c = moments_as c.do_unless_refused.ensures.takes (λ given later takes log keys gets.
    control_plain c.args.file.now c.args.place given c.args.job.now _ _ _ _ c.do_unless_refused.result
    (ap control_view c.in-Plain.is) (takes log keys gets))
