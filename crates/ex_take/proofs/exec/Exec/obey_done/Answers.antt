use Rattle.std.proofs.Common.{sym, subst, ◌∙◌}
use Rattle.cm_run.specs.Obey.{Obeys, stage}
use Rattle.ex_take.specs.Exec.{line_effects}
use Rattle.ex_take.specs.ExecState.{ExecState}
use Rattle.ex_take.proofs.Sequels.{line_commands, line_waits}
use Rattle.ex_take.proofs.exec.Exec.obey_done.Goals as goal

pub returns-in-Some-clause-obeys : goal.returns-in-Some-clause-obeys
returns-in-Some-clause-obeys g c =
    subst (λ (it : ExecState). Obeys (stage (g.S.Sink.contents c.args.screen.now) it) (stage (g.S.Sink.contents c.add_subcommands.new.screen) c.add_subcommands.new.self)
    (line_effects it c.args.session.now c.args.moment) c.add_subcommands.result) c.self.view_is
    (line_waits (record { interpreter = c.self.inside.interpreter; files = c.self.inside.files.items; taken = c.self.inside.taken; refused = c.self.inside.refused; stop = c.self.inside.stop }) c.add_subcommands.new.self c.take_pending.new.self c.args.session.now c.args.moment (g.S.Sink.contents c.args.screen.now) (g.S.Sink.contents c.add_subcommands.new.screen)
    c.add_subcommands.result c.take_pending.ensures.rest c.in-Some.pending (sym c.take_pending.ensures.pending ∙ c.in-Some.is) c.add_subcommands.ensures.obeys)

pub returns-in-None-clause-obeys : goal.returns-in-None-clause-obeys
returns-in-None-clause-obeys g c =
    subst (λ (it : ExecState). Obeys (stage (g.S.Sink.contents c.args.screen.now) it) (stage (g.S.Sink.contents c.obey_command.new.screen) c.obey_command.new.self)
    (line_effects it c.args.session.now c.args.moment) c.obey_command.result) c.self.view_is
    (line_commands (record { interpreter = c.self.inside.interpreter; files = c.self.inside.files.items; taken = c.self.inside.taken; refused = c.self.inside.refused; stop = c.self.inside.stop }) c.obey_command.new.self c.take_pending.new.self c.args.session.now c.args.moment (g.S.Sink.contents c.args.screen.now) (g.S.Sink.contents c.obey_command.new.screen)
    c.obey_command.result c.take_pending.ensures.rest c.command_of-command.result (sym c.take_pending.ensures.pending ∙ c.in-None.is)
    c.command_of-command.ensures.command c.obey_command.ensures.obeys)
