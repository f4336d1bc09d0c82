use Rattle.ex_take.proofs.Sequels.{cause_cut, cause_done, refusal_cut, refusal_done}
use Rattle.ex_take.proofs.exec.Exec.refuse_line.Goals as goal

pub returns-in-Done-clause-obeys : goal.returns-in-Done-clause-obeys
returns-in-Done-clause-obeys g c =
    refusal_done c.args.self.now c.stop_taking.new.self c.args.code (g.S.Sink.contents c.args.screen.now) (g.S.Sink.contents c.show_refusal.new.screen)
    c.show_refusal.result c.show_refusal.ensures.bytes c.stop_taking.ensures c.in-Done.is

pub returns-in-Done-clause-cause : goal.returns-in-Done-clause-cause
returns-in-Done-clause-cause g c = cause_done _ _ c.show_refusal.result c.in-Done.is c.show_refusal.ensures.cause

pub returns-in-Failed-clause-obeys : goal.returns-in-Failed-clause-obeys
returns-in-Failed-clause-obeys g c =
    refusal_cut c.args.self.now c.stop_taking.new.self c.args.code (g.S.Sink.contents c.args.screen.now) (g.S.Sink.contents c.show_refusal.new.screen)
    c.show_refusal.result c.show_refusal.ensures.bytes c.stop_taking.ensures c.in-Failed.is

pub returns-in-Failed-clause-cause : goal.returns-in-Failed-clause-cause
returns-in-Failed-clause-cause g c = cause_cut _ _ c.show_refusal.result c.in-Failed.is c.show_refusal.ensures.cause
