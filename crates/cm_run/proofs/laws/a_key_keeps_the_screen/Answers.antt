use Rattle.cm_run.proofs.Echoes.{key_clears, key_shows}
use Rattle.cm_run.proofs.laws.a_key_keeps_the_screen.Goals as goal

pub returns-clause-clear : goal.returns-clause-clear
returns-clause-clear g c = key_clears

pub returns-clause-shows : goal.returns-clause-shows
returns-clause-shows g c = key_shows g.D.Display.feed g.D.Display.holds g.D.Display.is_display
