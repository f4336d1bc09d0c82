use Rattle.cm_run.proofs.Echoes.{reply_shows}
use Rattle.cm_run.proofs.laws.a_reply_ends_its_line.Goals as goal

pub returns : goal.returns
returns g c = reply_shows g.D.Display.feed g.D.Display.holds g.D.Display.is_display
