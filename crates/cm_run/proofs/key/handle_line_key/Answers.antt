use Rattle.std.proofs.Common.{[], ◌∷◌, ◌++◌}
use Rattle.cm_run.specs.Trace.{run_state}
use Rattle.cm_run.proofs.Keys.{echo_done, line_log_cut, line_next, line_on, line_screen_cut, turn_done}
use Rattle.cm_run.proofs.key.handle_line_key.Goals as goal

pub returns-in-Failed-clause-traces : goal.returns-in-Failed-clause-traces
returns-in-Failed-clause-traces g c = λ tells keys gets.
    line_screen_cut g.A.Application.means c.args.logging c.args.key c.args.session.now c.edit_line-turn.new.session c.args.app.now
    (g.C.Clock.left c.args.clock.now) (g.S.Sink.contents c.args.screen.now) (g.S.Sink.contents c.edit_line-turn.new.screen)
    (g.W.Sink.contents c.args.log.now) (g.W.Sink.contents c.args.log.now) keys gets c.args.steps.now c.edit_line-turn.new.steps
    c.in-Failed.ensures.bytes c.in-Failed.ensures.edited c.in-Failed.ensures.steps

pub returns-in-Failed-log_line-clause-traces : goal.returns-in-Failed-log_line-clause-traces
returns-in-Failed-log_line-clause-traces g c = λ tells keys gets.
    line_log_cut g.A.Application.means c.args.logging c.args.key c.args.session.now c.edit_line-turn.new.session c.args.app.now
    (g.C.Clock.left c.args.clock.now) (g.S.Sink.contents c.args.screen.now) (g.S.Sink.contents c.edit_line-turn.new.screen)
    (g.W.Sink.contents c.args.log.now) (g.W.Sink.contents c.log_line.new.log) keys gets c.args.steps.now c.edit_line-turn.new.steps
    c.in-Failed-log_line.ensures.bytes c.in-Failed-log_line.ensures.nothing c.edit_line-turn.ensures.edited
    (echo_done c.edit_line-turn.result _ _ _ c.in_default.not-Failed c.edit_line-turn.ensures.bytes) c.edit_line-turn.ensures.steps

pub returns-clause-traces : goal.returns-clause-traces
returns-clause-traces g c = λ tells keys gets.
    line_on g.A.Application.means c.args.logging c.args.key c.args.session.now c.edit_line-turn.new.session c.args.app.now
    (g.C.Clock.left c.args.clock.now) (g.S.Sink.contents c.args.screen.now) (g.S.Sink.contents c.edit_line-turn.new.screen)
    (g.W.Sink.contents c.args.log.now) (g.W.Sink.contents c.log_line.new.log) keys gets c.args.steps.now c.edit_line-turn.new.steps
    c.edit_line-turn.result _ _ (c.finish_key.ensures.traces tells _ keys gets) c.edit_line-turn.ensures.edited
    (c.edit_line-turn.ensures.turn (turn_done _ c.in_default.not-Failed))
    (echo_done c.edit_line-turn.result _ _ _ c.in_default.not-Failed c.edit_line-turn.ensures.bytes) c.edit_line-turn.ensures.steps
    c.in_default-log_line.ensures.bytes (λ none. (c.in_default-log_line.ensures.quiet none).0)

pub returns-clause-next : goal.returns-clause-next
returns-clause-next g c = λ tells done.
    line_next g.A.Application.means c.args.logging c.args.key c.args.session.now c.edit_line-turn.new.session c.args.app.now
    (g.C.Clock.left c.args.clock.now) (g.S.Sink.contents c.args.screen.now) (g.S.Sink.contents c.edit_line-turn.new.screen)
    (g.W.Sink.contents c.args.log.now) (g.W.Sink.contents c.log_line.new.log) [] 0 c.args.steps.now c.edit_line-turn.new.steps
    c.edit_line-turn.result _ (c.finish_key.ensures.next tells done) c.edit_line-turn.ensures.edited
    (c.edit_line-turn.ensures.turn (turn_done _ c.in_default.not-Failed))

pub returns-clause-leads : goal.returns-clause-leads
returns-clause-leads g c = λ done.
    let line = c.finish_key.ensures.leads done in
    record {
      given = line.given;
      leads = λ moment more.
          line_next g.A.Application.means c.args.logging c.args.key c.args.session.now c.edit_line-turn.new.session c.args.app.now
          (line.given ++ moment ∷ more) (g.S.Sink.contents c.args.screen.now) (g.S.Sink.contents c.edit_line-turn.new.screen)
          (g.W.Sink.contents c.args.log.now) (g.W.Sink.contents c.log_line.new.log) [] 0 c.args.steps.now c.edit_line-turn.new.steps
          c.edit_line-turn.result (run_state c.finish_key.new.session c.finish_key.new.app (moment ∷ more)) (line.leads moment more) c.edit_line-turn.ensures.edited
          (c.edit_line-turn.ensures.turn (turn_done _ c.in_default.not-Failed));
    }
