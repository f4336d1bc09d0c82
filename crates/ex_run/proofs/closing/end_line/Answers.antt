use Rattle.std.proofs.Common.{ap, ◌∙◌, inl}
use Rattle.cm_io.specs.Contents.{add}
use Rattle.cm_text.specs.ScreenBytes.{end_of_line}
use Rattle.ex_system.specs.Messages.{message}
use Rattle.ex_system.proofs.Trials.{tried_after}
use Rattle.ex_run.proofs.closing.end_line.Goals as goal

pub returns-in-Done-clause-ends : goal.returns-in-Done-clause-ends
returns-in-Done-clause-ends g c = inl (
  c.finish.ensures.status,
  tried_after _ _ _ _ _ _ end_of_line (message c.finish.result)
      (c.in-Done.ensures.bytes ∙ ap (λ bytes. add (g.S.Sink.contents c.args.screen.now) bytes) c.end_of_line.ensures)
      c.in-Done.ensures.cause c.finish.ensures.shown,
)
