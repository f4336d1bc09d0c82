use Rattle.std.proofs.Common.{refl}
use Rattle.cm_run.specs.Cause.{ObeyCause}
use Rattle.ex_take.proofs.Sequels.{follows_logout, follows_other, follows_refused}
use Rattle.ex_take.proofs.exec.Exec.follow.Goals as goal

pub returns-in-Refused-clause-obeys : goal.returns-in-Refused-clause-obeys
returns-in-Refused-clause-obeys g c =
    follows_refused c.args.self.now c.stop_taking.new.self (g.S.Sink.contents c.args.screen.now) c.args.answer c.in-Refused.code c.in-Refused.is c.stop_taking.ensures

pub returns-in-Refused-clause-cause : goal.returns-in-Refused-clause-cause
unfolding ObeyCause
returns-in-Refused-clause-cause g c = refl

pub returns-in-Logout-clause-obeys : goal.returns-in-Logout-clause-obeys
returns-in-Logout-clause-obeys g c = follows_logout c.args.self.now (g.S.Sink.contents c.args.screen.now) c.args.answer c.in-Logout.is

pub returns-in-Logout-clause-cause : goal.returns-in-Logout-clause-cause
unfolding ObeyCause
returns-in-Logout-clause-cause g c = refl

pub returns-in_default-clause-obeys : goal.returns-in_default-clause-obeys
returns-in_default-clause-obeys g c =
    follows_other c.args.self.now c.settle.new.self (g.S.Sink.contents c.args.screen.now) (g.S.Sink.contents c.settle.new.screen) c.args.answer
    c.settle.result c.in_default.not-Refused c.in_default.not-Logout c.settle.ensures.obeys
