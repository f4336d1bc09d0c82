use Rattle.ex_take.proofs.Sequels.{command_acts, command_takes, command_types}
use Rattle.ex_take.proofs.exec.Exec.obey_command.Goals as goal

pub returns-in-Take-clause-obeys : goal.returns-in-Take-clause-obeys
returns-in-Take-clause-obeys g c =
    command_takes c.args.self.now c.take.new.self (g.S.Sink.contents c.args.screen.now) (g.S.Sink.contents c.take.new.screen) c.take.result c.args.moment c.args.command
    c.in-Take.file c.in-Take.is c.take.ensures.obeys

pub returns-in-CopyTty-clause-obeys : goal.returns-in-CopyTty-clause-obeys
returns-in-CopyTty-clause-obeys g c =
    command_types c.args.self.now c.begin_file.new.self (g.S.Sink.contents c.args.screen.now) (g.S.Sink.contents c.begin_file.new.screen) c.begin_file.result c.args.moment c.args.command
    c.in-CopyTty.to c.in-CopyTty.is c.begin_file.ensures.obeys

pub returns-in_default : goal.returns-in_default
returns-in_default g c = record {
  obeys = command_acts c.args.self.now c.act.new.self (g.S.Sink.contents c.args.screen.now) (g.S.Sink.contents c.act.new.screen) c.act.result c.args.moment
      c.args.command c.in_default.not-Take c.in_default.not-CopyTty c.act.ensures.obeys;
  later = c.act.ensures.later;
  cause = c.act.ensures.cause;
}
