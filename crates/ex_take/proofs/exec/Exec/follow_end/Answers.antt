use Rattle.std.proofs.Common.{refl}
use Rattle.cm_run.specs.Cause.{ObeyCause}
use Rattle.ex_take.proofs.Sequels.{end_other, end_refused}
use Rattle.ex_take.proofs.exec.Exec.follow_end.Goals as goal

pub returns-in-Refused-clause-obeys : goal.returns-in-Refused-clause-obeys
returns-in-Refused-clause-obeys g c =
    end_refused c.args.self.now c.stop_taking.new.self (g.S.Sink.contents c.args.screen.now) c.args.answer c.in-Refused.code c.in-Refused.is c.stop_taking.ensures

pub returns-in-Refused-clause-cause : goal.returns-in-Refused-clause-cause
unfolding ObeyCause
returns-in-Refused-clause-cause g c = refl

pub returns-in_default-clause-obeys : goal.returns-in_default-clause-obeys
returns-in_default-clause-obeys g c =
    end_other c.args.self.now c.close_files.new.self (g.S.Sink.contents c.args.screen.now) (g.S.Sink.contents c.close_files.new.screen) c.args.answer
    c.close_files.result c.in_default.not-Refused c.close_files.ensures.obeys
