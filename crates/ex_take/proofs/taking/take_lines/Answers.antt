use Rattle.std.proofs.Common.{Result, Err, sym, ap, subst, ◌∙◌}
use Rattle.cm_run.specs.Cause.{ObeyCause}
use Rattle.cm_run.specs.Cut.{Traces}
use Rattle.cm_run.specs.Observation.{observation}
use Rattle.cm_run.specs.declared.stop.Stop.{Stop}
use Rattle.ex_take.specs.Taking.{outcome_of, take_trace}
use Rattle.ex_take.proofs.Outcomes.{lines_cause, opens_cause, take_cut, take_on, told_by, went_so}
use Rattle.ex_take.proofs.taking.take_lines.Goals as goal

pub returns-in-Ok-clause-traces : goal.returns-in-Ok-clause-traces
returns-in-Ok-clause-traces g c = λ log keys gets moments.
    subst (λ (it : Result Unit Stop). Traces (observation (g.S.Sink.contents c.args.screen.now) log keys gets moments c.args.steps.now c.args.exec.now)
    (observation (g.S.Sink.contents c.run_lines-stop.new.screen) log keys gets moments c.run_lines-stop.new.steps c.run_lines-stop.new.app)
    (take_trace c.args.exec.now c.args.file.now c.args.moment) it)
    (went_so _ _ c.run_lines-stop.new.app c.run_lines-stop.result c.run_lines-stop.ensures.cause ∙ ap outcome_of (sym c.took_by.ensures))
    (take_on log keys gets moments c.args.steps.now (g.S.Sink.contents c.args.screen.now) (g.S.Sink.contents c.take.new.screen) c.args.exec.now c.take.new.self
    c.args.file.now c.args.moment
    (observation (g.S.Sink.contents c.run_lines-stop.new.screen) log keys gets moments c.run_lines-stop.new.steps c.run_lines-stop.new.app)
    c.run_lines-stop.result c.take.result c.in-Ok.is c.take.ensures.obeys (c.run_lines-stop.ensures.traces log keys gets moments))

pub returns-in-Ok-clause-outcome : goal.returns-in-Ok-clause-outcome
returns-in-Ok-clause-outcome g c = λ whole.
    c.took_by.ensures ∙ told_by c.run_lines-stop.new.app c.run_lines-stop.result (ap outcome_of (sym c.took_by.ensures) ∙ whole)

pub returns-in-Ok-clause-cause : goal.returns-in-Ok-clause-cause
returns-in-Ok-clause-cause g c =
    lines_cause _ _ _ c.run_lines-stop.new.app c.take.result c.run_lines-stop.result c.took_by.result c.in-Ok.is c.took_by.ensures c.take.ensures.cause
    c.run_lines-stop.ensures.cause

pub returns-in-Err-clause-traces : goal.returns-in-Err-clause-traces
returns-in-Err-clause-traces g c = λ log keys gets moments.
    subst (λ (it : Result Unit Stop). Traces (observation (g.S.Sink.contents c.args.screen.now) log keys gets moments c.args.steps.now c.args.exec.now)
    (observation (g.S.Sink.contents c.take.new.screen) log keys gets moments c.args.steps.now c.take.new.self)
    (take_trace c.args.exec.now c.args.file.now c.args.moment) it)
    (went_so _ _ c.take.new.self (Err c.in-Err.stop) (subst (λ (it : Result Unit Stop). ObeyCause (g.S.Sink.faults c.args.screen.now) (g.S.Sink.faults c.take.new.screen) it) c.in-Err.is
    c.take.ensures.cause)
    ∙ ap outcome_of (sym c.took_by-in-Err.ensures))
    (take_cut log keys gets moments c.args.steps.now (g.S.Sink.contents c.args.screen.now) (g.S.Sink.contents c.take.new.screen) c.args.exec.now c.take.new.self
    c.args.file.now c.args.moment c.in-Err.stop c.take.result c.in-Err.is c.take.ensures.obeys)

pub returns-in-Err-clause-cause : goal.returns-in-Err-clause-cause
returns-in-Err-clause-cause g c =
    opens_cause _ _ c.take.new.self c.take.result c.in-Err.stop c.took_by-in-Err.result c.in-Err.is c.took_by-in-Err.ensures c.take.ensures.cause
