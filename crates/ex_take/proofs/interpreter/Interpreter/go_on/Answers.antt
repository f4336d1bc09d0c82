use Rattle.std.proofs.Common.{sym, ◌∙◌, refl}
use Rattle.cm_run.specs.Cause.{ObeyCause}
use Rattle.ex_take.specs.Outcome.{outcome_of}
use Rattle.ex_take.proofs.PendingCommands.{acts_answer, goes_on, last_obeys, waits_answer}
use Rattle.ex_take.proofs.interpreter.Interpreter.go_on.Goals as goal

pub returns-then-is_pending-clause-obeys : goal.returns-then-is_pending-clause-obeys
returns-then-is_pending-clause-obeys g c = λ before.
    goes_on c.self.inside.store.state c.self.inside.typing c.self.inside.has_ended c.self.inside.pending c.args.self.now before c.args.pending
    (g.S.Sink.contents c.args.screen.now) c.self.view_is (sym c.is_pending.ensures ∙ c.if-is_pending.true)

pub returns-then-is_pending-clause-answer : goal.returns-then-is_pending-clause-answer
returns-then-is_pending-clause-answer g c = λ outcome.
    waits_answer c.args.self.now c.args.pending (sym c.is_pending.ensures ∙ c.if-is_pending.true)

pub returns-then-is_pending-clause-cause : goal.returns-then-is_pending-clause-cause
unfolding ObeyCause
returns-then-is_pending-clause-cause g c = refl

pub returns-clause-obeys : goal.returns-clause-obeys
returns-clause-obeys g c = λ before.
    last_obeys (g.S.Sink.contents c.args.screen.now) (g.S.Sink.contents c.complete.new.screen) before c.args.self.now c.complete.new.self c.args.pending
    (outcome_of c.complete.result) (sym c.is_pending.ensures ∙ c.if-is_pending.false) c.requires.free c.complete.ensures.obeys

pub returns-clause-answer : goal.returns-clause-answer
returns-clause-answer g c = λ outcome.
    acts_answer c.args.self.now c.args.pending c.complete.result (sym c.is_pending.ensures ∙ c.if-is_pending.false) (c.complete.ensures.answer outcome)
