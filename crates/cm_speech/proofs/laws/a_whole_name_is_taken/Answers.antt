use Rattle.cm_speech.proofs.Whole.{whole_taken}
use Rattle.cm_speech.proofs.laws.a_whole_name_is_taken.Goals as goal

pub returns : goal.returns
returns c = whole_taken
