use Rattle.std.proofs.Common.{Err, sym, subst, ◌∙◌}
use Rattle.cm_run.specs.Obey.{Obeys, stage}
use Rattle.ex_take.specs.Exec.{end_effects}
use Rattle.ex_take.specs.ExecState.{ExecState}
use Rattle.ex_take.proofs.Sequels.{cause_on, end_ends, end_ends_cut}
use Rattle.ex_take.proofs.exec.Exec.end_file.Goals as goal

pub returns-in-Ok-clause-obeys : goal.returns-in-Ok-clause-obeys
returns-in-Ok-clause-obeys g c =
    subst (λ (it : ExecState). Obeys (stage (g.S.Sink.contents c.args.screen.now) it) (stage (g.S.Sink.contents c.follow_end.new.screen) c.follow_end.new.self)
    (end_effects it it.interpreter.pending) c.follow_end.result) c.self.view_is
    (end_ends (record { interpreter = c.self.inside.interpreter; files = c.self.inside.files.items; taken = c.self.inside.taken; refused = c.self.inside.refused; stop = c.self.inside.stop }) c.take_pending.new.self c.in-Some.pending (g.S.Sink.contents c.args.screen.now) (g.S.Sink.contents c.end_subcommands-answer.new.screen) c.end_subcommands-answer.new.self
    c.end_subcommands-answer.result (sym c.take_pending.ensures.pending ∙ c.in-Some.is) c.take_pending.ensures.rest c.end_subcommands-answer.ensures.answer
    c.end_subcommands-answer.ensures.obeys c.follow_end.new.self (g.S.Sink.contents c.follow_end.new.screen) c.follow_end.result
    (sym c.outcome_of.ensures ∙ c.in-Ok.is) c.follow_end.ensures.obeys)

pub returns-in-Ok-clause-cause : goal.returns-in-Ok-clause-cause
returns-in-Ok-clause-cause g c =
    cause_on _ _ _ c.end_subcommands-answer.result c.follow_end.result (sym c.outcome_of.ensures ∙ c.in-Ok.is) c.end_subcommands-answer.ensures.cause
    c.follow_end.ensures.cause

pub returns-in-Err-clause-obeys : goal.returns-in-Err-clause-obeys
returns-in-Err-clause-obeys g c =
    subst (λ (it : ExecState). Obeys (stage (g.S.Sink.contents c.args.screen.now) it) (stage (g.S.Sink.contents c.end_subcommands-answer.new.screen)
    (record (record { interpreter = c.self.inside.interpreter; files = c.self.inside.files.items; taken = c.self.inside.taken; refused = c.self.inside.refused; stop = c.self.inside.stop }) { interpreter = c.end_subcommands-answer.new.self })) (end_effects it it.interpreter.pending) (Err c.in-Err.stop)) c.self.view_is
    (end_ends_cut (record { interpreter = c.self.inside.interpreter; files = c.self.inside.files.items; taken = c.self.inside.taken; refused = c.self.inside.refused; stop = c.self.inside.stop }) c.take_pending.new.self c.in-Some.pending (g.S.Sink.contents c.args.screen.now) (g.S.Sink.contents c.end_subcommands-answer.new.screen) c.end_subcommands-answer.new.self
    c.end_subcommands-answer.result (sym c.take_pending.ensures.pending ∙ c.in-Some.is) c.take_pending.ensures.rest c.end_subcommands-answer.ensures.answer
    c.end_subcommands-answer.ensures.obeys c.in-Err.stop (sym c.outcome_of.ensures ∙ c.in-Err.is))
