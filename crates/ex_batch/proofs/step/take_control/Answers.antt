use Rattle.std.proofs.Common.{sym}
use Rattle.ex_batch.proofs.Clocks.{moments_as, moments_same}
use Rattle.ex_batch.proofs.Steps.{line_none, line_shown, line_unshown}
use Rattle.ex_batch.proofs.step.take_control.Goals as goal

pub returns-in_default-clause-takes : goal.returns-in_default-clause-takes
returns-in_default-clause-takes g c = moments_same (λ moments log keys gets.
    line_none c.args.file.now c.args.place moments c.args.job.now _ _ (sym c.in_default.ensures.line))

pub returns-in-Ok-clause-takes : goal.returns-in-Ok-clause-takes
returns-in-Ok-clause-takes g c = moments_as c.do_control.ensures.takes (λ given later takes log keys gets.
    line_shown c.args.file.now c.args.place given c.args.job.now _ _ _ _ c.in-Some.line.now _ c.do_control.result
    (sym c.in-Some.ensures.line)
    (c.in-Ok.ensures.traces log keys gets given c.args.steps.now c.args.job.now)
    c.control_of.ensures.control (takes log keys gets))

pub returns-in-Err-clause-takes : goal.returns-in-Err-clause-takes
returns-in-Err-clause-takes g c = moments_same (λ moments log keys gets.
    line_unshown c.args.file.now c.args.place moments c.args.job.now _ _ _ c.in-Some.line.now c.in-Err.stop
    (sym c.in-Some.ensures.line)
    (c.in-Err.ensures.traces log keys gets moments c.args.steps.now c.args.job.now))
