use Rattle.tt_screen.proofs.HeldTexts.{screen_is_a_display}
use Rattle.tt_screen.proofs.laws.a_plain_screen_is_a_display.Goals as goal

pub returns : goal.returns
returns c = screen_is_a_display
