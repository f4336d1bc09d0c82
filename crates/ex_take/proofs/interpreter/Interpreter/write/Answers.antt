use Rattle.std.proofs.Common.{refl}
use Rattle.ex_take.specs.Outcome.{outcome_of}
use Rattle.ex_take.proofs.CommandAnswers.{answer_cause, write_answers, write_obeys}
use Rattle.ex_take.proofs.interpreter.Interpreter.write.Goals as goal

pub returns-clause-obeys : goal.returns-clause-obeys
returns-clause-obeys g c =
    write_obeys c.self.inside.store.state c.self.inside.typing c.self.inside.has_ended c.self.inside.pending c.args.self.now c.args.typing
    (g.S.Sink.contents c.args.screen.now) (g.S.Sink.contents c.write_data.new.sink) c.write_data.new.store.state c.write_data.result (outcome_of c.write_data.result)
    c.self.view_is refl c.write_data.ensures.acts

pub returns-clause-answer : goal.returns-clause-answer
returns-clause-answer g c =
    write_answers c.self.inside.store.state c.self.inside.typing c.self.inside.has_ended c.self.inside.pending c.args.self.now c.args.typing
    (g.S.Sink.contents c.args.screen.now) (g.S.Sink.contents c.write_data.new.sink) c.write_data.new.store.state c.write_data.result
    c.self.view_is c.write_data.ensures.acts

pub returns-clause-cause : goal.returns-clause-cause
returns-clause-cause g c = answer_cause _ _ c.write_data.result c.write_data.ensures.cause
