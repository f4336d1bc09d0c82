use Rattle.cm_run.proofs.Echoes.{start_is_clear, start_shows}
use Rattle.cm_run.proofs.laws.a_prompt_begins_a_line.Goals as goal

pub returns-clause-shows : goal.returns-clause-shows
returns-clause-shows g c = start_shows g.D.Display.feed g.D.Display.holds g.D.Display.is_display

pub returns-clause-clear : goal.returns-clause-clear
returns-clause-clear g c = start_is_clear
