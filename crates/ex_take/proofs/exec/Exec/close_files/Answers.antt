use Rattle.ex_take.proofs.Sequels.{closes_obey}
use Rattle.ex_take.proofs.exec.Exec.close_files.Goals as goal

pub returns-clause-obeys : goal.returns-clause-obeys
returns-clause-obeys g c =
    closes_obey c.args.self.now c.close.new.self c.look_ahead.new.self (g.S.Sink.contents c.args.screen.now) (g.S.Sink.contents c.look_ahead.new.screen)
    c.look_ahead.result c.close.ensures c.look_ahead.ensures.obeys
