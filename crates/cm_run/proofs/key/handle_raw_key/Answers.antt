use Rattle.std.proofs.Common.{[]}
use Rattle.cm_run.specs.Cause.{ObeyCause}
use Rattle.cm_run.proofs.Causes.{acts_cause, obey_cause_on}
use Rattle.cm_run.proofs.Keys.{raw_cut, raw_log_cut, raw_next, raw_on, raw_screen_cut}
use Rattle.cm_run.proofs.key.handle_raw_key.Goals as goal

pub returns-in-Failed-clause-traces : goal.returns-in-Failed-clause-traces
returns-in-Failed-clause-traces g c = λ keys gets moments trials.
    raw_screen_cut g.A.Application.means c.args.logging c.args.key c.args.session.now c.args.session.now c.args.app.now
    moments (g.S.Sink.contents c.args.screen.now) (g.S.Sink.contents c.echo_raw.new.screen)
    (g.W.Sink.contents c.args.log.now) (g.W.Sink.contents c.args.log.now) keys gets trials trials
    c.in-Failed.ensures.bytes

pub returns-in-Failed-log_raw-clause-traces : goal.returns-in-Failed-log_raw-clause-traces
returns-in-Failed-log_raw-clause-traces g c = λ keys gets moments trials.
    raw_log_cut g.A.Application.means c.args.logging c.args.key c.args.session.now c.args.session.now c.args.app.now
    moments (g.S.Sink.contents c.args.screen.now) (g.S.Sink.contents c.echo_raw.new.screen)
    (g.W.Sink.contents c.args.log.now) (g.W.Sink.contents c.log_raw.new.log) keys gets trials trials
    c.in-Failed-log_raw.ensures.bytes c.in-Failed-log_raw.ensures.nothing c.in_default.ensures.bytes

pub returns-in-Ok-clause-traces : goal.returns-in-Ok-clause-traces
returns-in-Ok-clause-traces g c = λ keys gets moments trials.
    raw_on g.A.Application.means c.args.logging c.args.key c.args.session.now c.args.session.now c.args.app.now
    moments (g.S.Sink.contents c.args.screen.now) (g.S.Sink.contents c.echo_raw.new.screen)
    (g.W.Sink.contents c.args.log.now) (g.W.Sink.contents c.log_raw.new.log) keys gets trials trials
    _ _ _ _ _ (c.open_line.ensures.traces _ keys gets moments trials) c.in-Ok.ensures.obeys c.in_default.ensures.bytes
    c.in_default-log_raw.ensures.bytes (λ none. (c.in_default-log_raw.ensures.quiet none).0)

pub returns-in-Ok-clause-next : goal.returns-in-Ok-clause-next
returns-in-Ok-clause-next g c = λ moments done.
    raw_next g.A.Application.means c.args.logging c.args.key c.args.session.now c.args.session.now c.args.app.now
    moments (g.S.Sink.contents c.args.screen.now) (g.S.Sink.contents c.echo_raw.new.screen)
    (g.W.Sink.contents c.args.log.now) (g.W.Sink.contents c.log_raw.new.log) [] 0 0 0
    _ _ _ _ c.in-Ok.ensures.obeys c.open_line.ensures.session

pub returns-in-Ok-clause-cause : goal.returns-in-Ok-clause-cause
unfolding ObeyCause
returns-in-Ok-clause-cause g c = λ keys.
    acts_cause keys (g.S.Sink.faults c.args.screen.now) _ _ (g.W.Sink.faults c.args.log.now) _ _
    (obey_cause_on _ _ _ _ c.in-Ok.ensures.cause c.open_line.ensures.cause) c.in_default.ensures.cause c.in_default-log_raw.ensures.cause

pub returns-in-Err-clause-traces : goal.returns-in-Err-clause-traces
returns-in-Err-clause-traces g c = λ keys gets moments trials.
    raw_cut g.A.Application.means c.args.logging c.args.key c.args.session.now c.args.session.now c.args.app.now
    moments (g.S.Sink.contents c.args.screen.now) (g.S.Sink.contents c.echo_raw.new.screen)
    (g.W.Sink.contents c.args.log.now) (g.W.Sink.contents c.log_raw.new.log) keys gets trials trials
    _ _ _ c.in-Err.ensures.obeys c.in_default.ensures.bytes
    c.in_default-log_raw.ensures.bytes (λ none. (c.in_default-log_raw.ensures.quiet none).0)
