use Rattle.ex_batch.proofs.Clocks.{moment_given, moments_as}
use Rattle.ex_batch.proofs.StepCuts.{text_cut, text_whole}
use Rattle.ex_batch.proofs.step.do_text.Goals as goal

pub returns-in-Ok-clause-takes : goal.returns-in-Ok-clause-takes
returns-in-Ok-clause-takes g c =
    moments_as (moment_given g.C.Clock.tells (g.C.Clock.left c.args.clock.now) (g.C.Clock.left c.now-moment.new.self) c.now-moment.result
    c.now-moment.ensures.moment c.now-moment.ensures.later)
    (λ given later taken log keys gets.
    text_whole log keys gets (g.S.Sink.contents c.args.screen.now) (g.S.Sink.contents c.take_text.new.screen) given later
    c.args.steps.now c.take_text.new.steps c.args.place c.now-moment.result c.args.job.now c.take_text.new.job
    c.args.text.now taken.0 taken.1 c.after_text.result (c.in-Ok.ensures.traces log keys gets later) c.after_text.ensures)

pub returns-in-Err-clause-takes : goal.returns-in-Err-clause-takes
returns-in-Err-clause-takes g c =
    moments_as (moment_given g.C.Clock.tells (g.C.Clock.left c.args.clock.now) (g.C.Clock.left c.now-moment.new.self) c.now-moment.result
    c.now-moment.ensures.moment c.now-moment.ensures.later)
    (λ given later taken log keys gets.
    text_cut log keys gets (g.S.Sink.contents c.args.screen.now) (g.S.Sink.contents c.take_text.new.screen) given later
    c.args.steps.now c.take_text.new.steps c.args.place c.now-moment.result c.args.job.now c.take_text.new.job
    c.args.text.now taken.0 taken.1 c.in-Err.stop (c.in-Err.ensures.traces log keys gets later))
