use Rattle.std.proofs.Common.{refl}
use Rattle.cm_run.specs.Cause.{ObeyCause}
use Rattle.ex_take.proofs.Sequels.{looks_none, looks_some}
use Rattle.ex_take.proofs.exec.Exec.look_ahead.Goals as goal

pub returns-in-None-clause-obeys : goal.returns-in-None-clause-obeys
returns-in-None-clause-obeys g c =
    looks_none c.args.self.now (g.S.Sink.contents c.args.screen.now) c.next_fault.result c.next_fault.ensures c.in-None.is

pub returns-in-None-clause-cause : goal.returns-in-None-clause-cause
unfolding ObeyCause
returns-in-None-clause-cause g c = refl

pub returns-in-Some-clause-obeys : goal.returns-in-Some-clause-obeys
returns-in-Some-clause-obeys g c =
    looks_some c.args.self.now c.refuse_line.new.self (g.S.Sink.contents c.args.screen.now) (g.S.Sink.contents c.refuse_line.new.screen)
    c.next_fault.result c.in-Some.code c.refuse_line.result c.next_fault.ensures c.in-Some.is c.refuse_line.ensures.obeys
