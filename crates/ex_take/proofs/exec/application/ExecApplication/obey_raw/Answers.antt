use Rattle.std.proofs.Common.{Result, sym, subst}
use Rattle.cm_run.specs.Obey.{Obeys, stage}
use Rattle.cm_run.specs.declared.stop.Stop.{Stop}
use Rattle.ex_take.specs.Interpreter.{raw_answer, raw_by}
use Rattle.ex_take.specs.Outcome.{outcome_of}
use Rattle.ex_take.specs.Exec.{raw_effects}
use Rattle.ex_take.specs.ExecState.{ExecState}
use Rattle.ex_take.proofs.Sequels.{raw_obeys}
use Rattle.ex_take.proofs.exec.application.ExecApplication.obey_raw.Goals as goal

pub returns-clause-obeys : goal.returns-clause-obeys
returns-clause-obeys g c =
    subst (λ (it : Result Unit Stop). Obeys (stage (g.S.Sink.contents c.args.screen.now) c.args.self.now)
    (stage (g.S.Sink.contents c.obey_raw-answer.new.screen) c.count_refusal.new.self) (raw_effects c.args.self.now c.args.key) it) (sym c.outcome_of.ensures)
    (subst (λ (it : ExecState). Obeys (stage (g.S.Sink.contents c.args.screen.now) it)
    (stage (g.S.Sink.contents c.obey_raw-answer.new.screen) c.count_refusal.new.self) (raw_effects it c.args.key) (outcome_of c.obey_raw-answer.result)) c.self.view_is
    (raw_obeys (record { interpreter = c.self.inside.interpreter; files = c.self.inside.files.items; taken = c.self.inside.taken; refused = c.self.inside.refused; stop = c.self.inside.stop }) (g.S.Sink.contents c.args.screen.now) (g.S.Sink.contents c.obey_raw-answer.new.screen) c.obey_raw-answer.new.self c.count_refusal.new.self
    c.obey_raw-answer.result (raw_answer c.self.inside.interpreter c.args.key c.self.inside.interpreter.typing) (raw_by c.self.inside.interpreter c.args.key c.self.inside.interpreter.typing)
    c.obey_raw-answer.ensures.obeys c.obey_raw-answer.ensures.answer c.count_refusal.ensures))
