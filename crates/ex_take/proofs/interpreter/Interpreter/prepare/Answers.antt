use Rattle.std.proofs.Common.{◌≡◌, OnOk, subst}
use Rattle.ex_take.specs.InterpreterState.{InterpreterState}
use Rattle.ex_take.proofs.States.{copies, logout, otherwise}
use Rattle.ex_take.proofs.interpreter.Interpreter.prepare.Goals as goal

pub returns-in-Logout-clause-ready : goal.returns-in-Logout-clause-ready
returns-in-Logout-clause-ready c =
    logout c.self.inside.store.state c.self.inside.typing c.self.inside.has_ended c.self.inside.pending c.args.self.now c.args.moment c.args.command.now c.self.view_is c.in-Logout.is

pub returns-in-CopyTty-clause-ready : goal.returns-in-CopyTty-clause-ready
returns-in-CopyTty-clause-ready c =
    subst (λ (it : InterpreterState). OnOk c.begin_typing.result (c.begin_typing.new.self ≡ it))
    (copies c.args.self.now c.args.moment c.args.command.now c.in-CopyTty.to c.in-CopyTty.is) c.begin_typing.ensures.ready

pub returns-in_default-clause-ready : goal.returns-in_default-clause-ready
returns-in_default-clause-ready c =
    otherwise c.args.self.now c.args.moment c.args.command.now c.requires.acts c.in_default.not-Logout c.in_default.not-CopyTty
