use Rattle.std.proofs.Common.{◌≡◌, None, refl, ◌∙◌}
use Rattle.cm_run.specs.Cause.{ObeyCause}
use Rattle.ex_take.specs.Interpreter.{effect_of}
use Rattle.ex_take.specs.Outcome.{outcome_of}
use Rattle.ex_take.proofs.Acts.{act_answers, act_free, act_obeys, act_target, may_act}
use Rattle.ex_take.proofs.PendingCommands.{none_waits}
use Rattle.cm_run.proofs.Acts.{obeys_wanting}
use Rattle.ex_take.proofs.CommandAnswers.{answer_cause}
use Rattle.ex_take.proofs.interpreter.Interpreter.do_command.Goals as goal

pub returns-clause-obeys : goal.returns-clause-obeys
returns-clause-obeys g c =
    act_obeys c.self.inside.store.state c.self.inside.typing c.self.inside.has_ended c.self.inside.pending c.args.self.now c.args.moment c.args.command.now
    (c.self.view_is ∙ c.in-Ok.ensures.ready) (g.S.Sink.contents c.args.screen.now) (g.S.Sink.contents c.act.new.sink) c.act.new.store.state
    c.act.result (outcome_of c.act.result) refl c.act.ensures.acts

pub returns-clause-answer : goal.returns-clause-answer
returns-clause-answer g c =
    act_answers c.self.inside.store.state c.self.inside.typing c.self.inside.has_ended c.self.inside.pending c.args.self.now c.args.moment c.args.command.now
    (c.self.view_is ∙ c.in-Ok.ensures.ready) (g.S.Sink.contents c.args.screen.now) (g.S.Sink.contents c.act.new.sink) c.act.new.store.state
    c.act.result c.act.ensures.acts

pub returns-clause-cause : goal.returns-clause-cause
returns-clause-cause g c = answer_cause _ _ c.act.result c.act.ensures.cause

pub act-requires : goal.act-requires
act-requires g c =
    may_act c.self.inside.store.state c.self.inside.typing c.self.inside.has_ended c.self.inside.pending c.args.self.now c.args.moment c.args.command.now
    (c.self.view_is ∙ c.in-Ok.ensures.ready) c.requires.may_act

pub invariant_of-self : goal.invariant_of-self
invariant_of-self g c =
    let none : c.self.inside.pending ≡ None =
    act_free c.self.inside.store.state c.self.inside.typing c.self.inside.has_ended c.self.inside.pending c.args.self.now c.args.moment
    c.args.command.now (c.self.view_is ∙ c.in-Ok.ensures.ready) c.requires.free c.requires.acts in (
      act_target c.self.inside.store.state c.self.inside.typing c.self.inside.has_ended c.self.inside.pending c.args.self.now c.args.moment c.args.command.now
          (c.self.view_is ∙ c.in-Ok.ensures.ready) (g.S.Sink.contents c.args.screen.now) (g.S.Sink.contents c.act.new.sink) c.act.new.store.state
          c.act.result c.requires.line c.self.invariant.0 c.act.ensures.acts,
      (none_waits _ _ none, λ typing some. none),
    )

pub returns-in_default-clause-obeys : goal.returns-in_default-clause-obeys
returns-in_default-clause-obeys g c =
    obeys_wanting (effect_of c.args.self.now c.args.moment c.args.command.now) (g.S.Sink.contents c.args.screen.now) (g.S.Sink.contents c.args.screen.now)
    c.args.self.now c.prepare.new.self c.in_default.ensures.wanting refl c.in_default.ensures.same

pub returns-in_default-clause-cause : goal.returns-in_default-clause-cause
unfolding ObeyCause
returns-in_default-clause-cause g c = refl
