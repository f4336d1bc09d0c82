use Rattle.cm_recognise.proofs.WholeFields.{whole_is_taken}
use Rattle.cm_recognise.proofs.laws.a_whole_completion_is_taken.Goals as goal

pub returns : goal.returns
returns c = whole_is_taken
