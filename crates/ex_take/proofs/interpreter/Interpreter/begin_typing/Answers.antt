use Rattle.std.proofs.Common.{sym, ◌∙◌}
use Rattle.ex_take.proofs.States.{named, unnamed}
use Rattle.ex_take.proofs.interpreter.Interpreter.begin_typing.Goals as goal

pub returns-then-lacks_name-clause-ready : goal.returns-then-lacks_name-clause-ready
returns-then-lacks_name-clause-ready c =
    unnamed c.args.self.now c.args.moment c.args.to.now (sym c.lacks_name.ensures ∙ c.if-lacks_name.true)

pub returns-clause-ready : goal.returns-clause-ready
returns-clause-ready c =
    named c.self.inside.store.state c.self.inside.typing c.self.inside.has_ended c.self.inside.pending c.args.self.now c.args.moment c.args.to.now c.copy.result
    c.in_ok-typed.typed c.self.view_is c.copy.ensures c.in_ok-typed.ensures (sym c.lacks_name.ensures ∙ c.if-lacks_name.false)
