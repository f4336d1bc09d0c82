use Rattle.std.proofs.Common.{Err, sym, subst, ◌∙◌}
use Rattle.cm_run.specs.Obey.{Obeys, stage}
use Rattle.ex_take.specs.Interpreter.{completion_answer, pending_with}
use Rattle.ex_take.specs.Exec.{follows, pending_effects}
use Rattle.ex_take.specs.ExecState.{ExecState}
use Rattle.ex_take.proofs.Sequels.{cause_kept, cause_on, followed_from, followed_from_cut}
use Rattle.ex_take.proofs.exec.Exec.add_subcommands.Goals as goal

pub returns-in-Ok-clause-obeys : goal.returns-in-Ok-clause-obeys
returns-in-Ok-clause-obeys g c = λ one.
    subst (λ (it : ExecState). Obeys (stage (g.S.Sink.contents c.args.screen.now) (record it { interpreter = one })) (stage (g.S.Sink.contents c.follow.new.screen) c.follow.new.self)
    (pending_effects it c.args.session.now c.args.pending) c.follow.result) c.self.view_is
    (followed_from (record { interpreter = c.self.inside.interpreter; files = c.self.inside.files.items; taken = c.self.inside.taken; refused = c.self.inside.refused; stop = c.self.inside.stop }) one (g.S.Sink.contents c.args.screen.now) (g.S.Sink.contents c.add_subcommands-answer.new.screen) c.self.inside.interpreter c.add_subcommands-answer.new.self
    (pending_with c.args.session.now c.args.pending) c.add_subcommands-answer.result
    (completion_answer c.self.inside.interpreter (pending_with c.args.session.now c.args.pending)) follows (g.S.Sink.contents c.follow.new.screen) c.follow.new.self c.follow.result
    (sym c.outcome_of.ensures ∙ c.in-Ok.is) c.add_subcommands-answer.ensures.answer (c.add_subcommands-answer.ensures.obeys one) c.follow.ensures.obeys)

pub returns-in-Ok-clause-cause : goal.returns-in-Ok-clause-cause
returns-in-Ok-clause-cause g c = cause_on _ _ _ c.add_subcommands-answer.result c.follow.result (sym c.outcome_of.ensures ∙ c.in-Ok.is) c.add_subcommands-answer.ensures.cause c.follow.ensures.cause

pub returns-in-Err-clause-obeys : goal.returns-in-Err-clause-obeys
returns-in-Err-clause-obeys g c = λ one.
    subst (λ (it : ExecState). Obeys (stage (g.S.Sink.contents c.args.screen.now) (record it { interpreter = one }))
    (stage (g.S.Sink.contents c.add_subcommands-answer.new.screen) (record (record { interpreter = c.self.inside.interpreter; files = c.self.inside.files.items; taken = c.self.inside.taken; refused = c.self.inside.refused; stop = c.self.inside.stop }) { interpreter = c.add_subcommands-answer.new.self }))
    (pending_effects it c.args.session.now c.args.pending) (Err c.in-Err.stop)) c.self.view_is
    (followed_from_cut (record { interpreter = c.self.inside.interpreter; files = c.self.inside.files.items; taken = c.self.inside.taken; refused = c.self.inside.refused; stop = c.self.inside.stop }) one (g.S.Sink.contents c.args.screen.now) (g.S.Sink.contents c.add_subcommands-answer.new.screen) c.self.inside.interpreter c.add_subcommands-answer.new.self
    (pending_with c.args.session.now c.args.pending) c.add_subcommands-answer.result
    (completion_answer c.self.inside.interpreter (pending_with c.args.session.now c.args.pending)) follows c.in-Err.stop
    (sym c.outcome_of.ensures ∙ c.in-Err.is) (c.add_subcommands-answer.ensures.obeys one))

pub returns-in-Err-clause-cause : goal.returns-in-Err-clause-cause
returns-in-Err-clause-cause g c = cause_kept _ _ c.add_subcommands-answer.result c.in-Err.stop (sym c.outcome_of.ensures ∙ c.in-Err.is) c.add_subcommands-answer.ensures.cause
