use Rattle.std.proofs.Common.{[], ◌∷◌, ◌++◌, sym}
use Rattle.cm_run.specs.Trace.{run_state}
use Rattle.cm_run.proofs.Modes.{ended_key, ended_step, line_key, line_step, raw_key, raw_step}
use Rattle.cm_run.proofs.key.handle_key.Goals as goal

pub returns-in-Line-clause-traces : goal.returns-in-Line-clause-traces
returns-in-Line-clause-traces g c = λ tells keys gets.
    line_key g.A.Application.means c.args.logging (run_state c.args.session.now c.args.app.now (g.C.Clock.left c.args.clock.now)) c.args.key
    c.in-Line.node c.in-Line.prompt c.in-Line.takes_moment _ _ _ (sym c.in-Line.ensures.mode)
    (c.handle_line_key.ensures.traces tells keys gets)

pub returns-in-Line-clause-next : goal.returns-in-Line-clause-next
returns-in-Line-clause-next g c = λ tells done.
    line_step g.A.Application.means c.args.logging (run_state c.args.session.now c.args.app.now (g.C.Clock.left c.args.clock.now)) c.args.key
    c.in-Line.node c.in-Line.prompt c.in-Line.takes_moment _ (sym c.in-Line.ensures.mode) (c.handle_line_key.ensures.next tells done)

pub returns-in-Raw-clause-traces : goal.returns-in-Raw-clause-traces
returns-in-Raw-clause-traces g c = λ tells keys gets.
    raw_key g.A.Application.means c.args.logging (run_state c.args.session.now c.args.app.now (g.C.Clock.left c.args.clock.now)) c.args.key
    _ _ _ (sym c.in-Raw.ensures.mode) (c.handle_raw_key.ensures.traces keys gets _ _)

pub returns-in-Raw-clause-next : goal.returns-in-Raw-clause-next
returns-in-Raw-clause-next g c = λ tells done.
    raw_step g.A.Application.means c.args.logging (run_state c.args.session.now c.args.app.now (g.C.Clock.left c.args.clock.now)) c.args.key
    _ (sym c.in-Raw.ensures.mode) (c.handle_raw_key.ensures.next _ done)

pub returns-in-Ended-clause-traces : goal.returns-in-Ended-clause-traces
returns-in-Ended-clause-traces g c = λ tells keys gets.
    ended_key g.A.Application.means c.args.logging (run_state c.args.session.now c.args.app.now (g.C.Clock.left c.args.clock.now)) c.args.key
    _ _ _ (sym c.in-Ended.ensures.mode) (c.handle_raw_key-in-Ended.ensures.traces keys gets _ _)

pub returns-in-Ended-clause-next : goal.returns-in-Ended-clause-next
returns-in-Ended-clause-next g c = λ tells done.
    ended_step g.A.Application.means c.args.logging (run_state c.args.session.now c.args.app.now (g.C.Clock.left c.args.clock.now)) c.args.key
    _ (sym c.in-Ended.ensures.mode) (c.handle_raw_key-in-Ended.ensures.next _ done)

pub returns-in-Line-clause-leads : goal.returns-in-Line-clause-leads
returns-in-Line-clause-leads g c = λ done.
    let line = c.handle_line_key.ensures.leads done in
    record {
      given = line.given;
      leads = λ moment more.
          line_step g.A.Application.means c.args.logging (run_state c.args.session.now c.args.app.now (line.given ++ moment ∷ more)) c.args.key
          c.in-Line.node c.in-Line.prompt c.in-Line.takes_moment
          (run_state c.handle_line_key.new.session c.handle_line_key.new.app (moment ∷ more))
          (sym c.in-Line.ensures.mode) (line.leads moment more);
    }

pub returns-in-Raw-clause-leads : goal.returns-in-Raw-clause-leads
returns-in-Raw-clause-leads g c = λ done. record {
  given = [];
  leads = λ moment more.
      raw_step g.A.Application.means c.args.logging (run_state c.args.session.now c.args.app.now (moment ∷ more)) c.args.key
      _ (sym c.in-Raw.ensures.mode) (c.handle_raw_key.ensures.next (moment ∷ more) done);
}

pub returns-in-Ended-clause-leads : goal.returns-in-Ended-clause-leads
returns-in-Ended-clause-leads g c = λ done. record {
  given = [];
  leads = λ moment more.
      ended_step g.A.Application.means c.args.logging (run_state c.args.session.now c.args.app.now (moment ∷ more)) c.args.key
      _ (sym c.in-Ended.ensures.mode) (c.handle_raw_key-in-Ended.ensures.next (moment ∷ more) done);
}
