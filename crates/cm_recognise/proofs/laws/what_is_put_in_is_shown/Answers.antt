use Rattle.cm_recognise.proofs.Lines.{insertion_is_shown, insertion_on_screen}
use Rattle.cm_recognise.proofs.laws.what_is_put_in_is_shown.Goals as goal

pub returns-clause-shown : goal.returns-clause-shown
returns-clause-shown c = insertion_is_shown

pub returns-clause-screen : goal.returns-clause-screen
returns-clause-screen c = insertion_on_screen
