use Rattle.std.proofs.Common.{[], ◌∷◌, Err, sym, subst, ◌∙◌}
use Rattle.cm_run.specs.Obey.{Obeys, stage}
use Rattle.ex_commands.specs.Act.{act_of}
use Rattle.ex_take.specs.Interpreter.{effect_of}
use Rattle.ex_take.specs.Exec.{acts, follows}
use Rattle.ex_take.specs.ExecState.{ExecState}
use Rattle.ex_take.proofs.Sequels.{cause_kept, cause_on, followed_cut, followed_on}
use Rattle.ex_take.proofs.exec.Exec.act.Goals as goal

pub returns-in-Ok-clause-obeys : goal.returns-in-Ok-clause-obeys
returns-in-Ok-clause-obeys g c =
    subst (λ (it : ExecState). Obeys (stage (g.S.Sink.contents c.args.screen.now) it) (stage (g.S.Sink.contents c.follow.new.screen) c.follow.new.self)
    (acts it c.args.moment c.args.command) c.follow.result) c.self.view_is
    (followed_on (record { interpreter = c.self.inside.interpreter; files = c.self.inside.files.items; taken = c.self.inside.taken; refused = c.self.inside.refused; stop = c.self.inside.stop }) (g.S.Sink.contents c.args.screen.now) (g.S.Sink.contents c.obey-answer.new.screen) c.self.inside.interpreter c.obey-answer.new.self
    (effect_of c.self.inside.interpreter c.args.moment c.args.command ∷ []) c.obey-answer.result
    (act_of c.args.command c.args.moment c.self.inside.interpreter.state).answer follows (g.S.Sink.contents c.follow.new.screen) c.follow.new.self c.follow.result
    (sym c.outcome_of.ensures ∙ c.in-Ok.is) c.obey-answer.ensures.answer c.obey-answer.ensures.obeys c.follow.ensures.obeys)

pub returns-in-Ok-clause-cause : goal.returns-in-Ok-clause-cause
returns-in-Ok-clause-cause g c = cause_on _ _ _ c.obey-answer.result c.follow.result (sym c.outcome_of.ensures ∙ c.in-Ok.is) c.obey-answer.ensures.cause c.follow.ensures.cause

pub returns-in-Err-clause-obeys : goal.returns-in-Err-clause-obeys
returns-in-Err-clause-obeys g c =
    subst (λ (it : ExecState). Obeys (stage (g.S.Sink.contents c.args.screen.now) it)
    (stage (g.S.Sink.contents c.obey-answer.new.screen) (record (record { interpreter = c.self.inside.interpreter; files = c.self.inside.files.items; taken = c.self.inside.taken; refused = c.self.inside.refused; stop = c.self.inside.stop }) { interpreter = c.obey-answer.new.self }))
    (acts it c.args.moment c.args.command) (Err c.in-Err.stop)) c.self.view_is
    (followed_cut (record { interpreter = c.self.inside.interpreter; files = c.self.inside.files.items; taken = c.self.inside.taken; refused = c.self.inside.refused; stop = c.self.inside.stop }) (g.S.Sink.contents c.args.screen.now) (g.S.Sink.contents c.obey-answer.new.screen) c.self.inside.interpreter c.obey-answer.new.self
    (effect_of c.self.inside.interpreter c.args.moment c.args.command ∷ []) c.obey-answer.result
    (act_of c.args.command c.args.moment c.self.inside.interpreter.state).answer follows c.in-Err.stop
    (sym c.outcome_of.ensures ∙ c.in-Err.is) c.obey-answer.ensures.obeys)

pub returns-in-Err-clause-cause : goal.returns-in-Err-clause-cause
returns-in-Err-clause-cause g c = cause_kept _ _ c.obey-answer.result c.in-Err.stop (sym c.outcome_of.ensures ∙ c.in-Err.is) c.obey-answer.ensures.cause
