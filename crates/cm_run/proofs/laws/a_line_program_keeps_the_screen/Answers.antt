use Rattle.std.proofs.Common.{[]}
use Rattle.cm_run.specs.LineSemantics.{lines_only}
use Rattle.cm_run.proofs.Displays.{run_keeps_while}
use Rattle.cm_run.proofs.LinePrograms.{keeps_lines}
use Rattle.cm_run.proofs.laws.a_line_program_keeps_the_screen.Goals as goal

pub returns : goal.returns
returns g c = λ before now result kept run taken rest all.
    run_keeps_while g.P.LineProgram.keeps (lines_only g.P.LineProgram.means)
    (keeps_lines g.P.LineProgram.means g.P.LineProgram.keeps g.P.LineProgram.prompts g.P.LineProgram.kept)
    g.D.Display.feed g.D.Display.holds g.D.Display.is_display before.state [] taken kept (run.sound taken rest all)
