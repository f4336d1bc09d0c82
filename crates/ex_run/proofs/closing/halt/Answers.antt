use Rattle.std.proofs.Common.{ap, ◌∙◌}
use Rattle.cm_io.specs.Contents.{add}
use Rattle.cm_text.specs.ScreenBytes.{end_of_line}
use Rattle.ex_system.specs.Messages.{message}
use Rattle.ex_system.proofs.Trials.{tried_after, tried_joined}
use Rattle.ex_run.proofs.closing.halt.Goals as goal

pub returns-in-Done-clause-shown : goal.returns-in-Done-clause-shown
returns-in-Done-clause-shown g c =
    tried_joined _ _ _ _ end_of_line (message c.finish.result)
    (tried_after _ _ _ _ _ _ end_of_line (message c.finish.result)
    (c.in-Done.ensures.bytes ∙ ap (λ bytes. add (g.S.Sink.contents c.args.screen.now) bytes) c.end_of_line.ensures)
    c.in-Done.ensures.cause c.finish.ensures.shown)
