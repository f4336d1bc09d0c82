use Rattle.cm_recognise.proofs.Insertions.{whole_is_put_in}
use Rattle.cm_recognise.proofs.laws.a_whole_completion_is_put_in.Goals as goal

pub returns : goal.returns
returns c = whole_is_put_in
