use Rattle.cm_run.proofs.Displays.{run_keeps}
use Rattle.cm_run.proofs.laws.a_run_keeps_the_screen.Goals as goal

pub returns : goal.returns
returns g c = λ m keeping. run_keeps m keeping g.D.Display.feed g.D.Display.holds g.D.Display.is_display
