use Rattle.std.proofs.Common.{ap, sym, ◌∙◌, refl}
use Rattle.ex_commands.specs.Act.{writes}
use Rattle.ex_commands.specs.declared.acted.Acted.TheVariants as answers
use Rattle.ex_commands.specs.declared.data.DataTurn.TheVariants as turns
use Rattle.ex_take.specs.InterpreterState.{InterpreterState}
use Rattle.ex_take.specs.Outcome.{outcome_of}
use Rattle.ex_take.proofs.TypedKeys.{dropped, more, raw_answers, written_out}
use Rattle.ex_take.proofs.interpreter.Interpreter.obey_raw.Goals as goal

pub returns-in-Write-clause-obeys : goal.returns-in-Write-clause-obeys
returns-in-Write-clause-obeys g c =
    written_out c.self.inside.store.state c.self.inside.typing c.self.inside.has_ended c.self.inside.pending c.args.self.now c.args.key c.in-Some.typing
    (g.S.Sink.contents c.args.screen.now) c.self.view_is (sym c.take.ensures.value ∙ c.in-Some.is) c.take-2.new.self
    c.take-2.ensures.bytes (sym c.take-2.ensures.turn ∙ c.in-Write.is) c.take.new.self c.take.ensures.after (g.S.Sink.contents c.write.new.screen) c.write.new.self
    (outcome_of c.write.result) c.write.ensures.obeys

pub returns-in-More-clause-obeys : goal.returns-in-More-clause-obeys
returns-in-More-clause-obeys g c =
    more c.self.inside.store.state c.self.inside.typing c.self.inside.has_ended c.self.inside.pending c.args.self.now c.args.key c.in-Some.typing
    (g.S.Sink.contents c.args.screen.now) c.self.view_is (sym c.take.ensures.value ∙ c.in-Some.is) c.take-2.new.self
    c.take-2.ensures.bytes (sym c.take-2.ensures.turn ∙ c.in-More.is)

pub returns-in-Dropped-clause-obeys : goal.returns-in-Dropped-clause-obeys
returns-in-Dropped-clause-obeys g c =
    dropped c.self.inside.store.state c.self.inside.typing c.self.inside.has_ended c.self.inside.pending c.args.self.now c.args.key c.in-Some.typing
    (g.S.Sink.contents c.args.screen.now) c.self.view_is (sym c.take.ensures.value ∙ c.in-Some.is) c.take-2.new.self
    c.take-2.ensures.bytes (sym c.take-2.ensures.turn ∙ c.in-Dropped.is) c.take.new.self c.take.ensures.after

pub returns-in-More-clause-answer : goal.returns-in-More-clause-answer
returns-in-More-clause-answer g c = λ outcome. raw_answers c.self.inside.store.state c.self.inside.typing c.self.inside.has_ended c.self.inside.pending c.args.self.now c.args.key c.in-Some.typing
    (g.S.Sink.contents c.args.screen.now) c.self.view_is (sym c.take.ensures.value ∙ c.in-Some.is) c.take-2.new.self c.take-2.ensures.bytes turns.More (sym c.take-2.ensures.turn ∙ c.in-More.is) answers.Ok refl

pub returns-in-Dropped-clause-answer : goal.returns-in-Dropped-clause-answer
returns-in-Dropped-clause-answer g c = λ outcome. raw_answers c.self.inside.store.state c.self.inside.typing c.self.inside.has_ended c.self.inside.pending c.args.self.now c.args.key c.in-Some.typing
    (g.S.Sink.contents c.args.screen.now) c.self.view_is (sym c.take.ensures.value ∙ c.in-Some.is) c.take-2.new.self c.take-2.ensures.bytes turns.Dropped (sym c.take-2.ensures.turn ∙ c.in-Dropped.is) answers.Ok refl

pub returns-in-Write-clause-answer : goal.returns-in-Write-clause-answer
returns-in-Write-clause-answer g c = λ outcome. raw_answers c.self.inside.store.state c.self.inside.typing c.self.inside.has_ended c.self.inside.pending c.args.self.now c.args.key c.in-Some.typing
    (g.S.Sink.contents c.args.screen.now) c.self.view_is (sym c.take.ensures.value ∙ c.in-Some.is) c.take-2.new.self c.take-2.ensures.bytes turns.Write (sym c.take-2.ensures.turn ∙ c.in-Write.is) c.write.result
    (c.write.ensures.answer outcome ∙ ap (λ (it : InterpreterState). (writes c.in-Some.typing.to c.take-2.new.self c.in-Some.typing.moment it.state).answer) c.self.view_is)
