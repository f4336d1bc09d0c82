use Rattle.ex_image.proofs.Endings.{one_bad}
use Rattle.ex_image.proofs.laws.bytes_first_go_wrong_once.Goals as goal

pub returns : goal.returns
returns c = one_bad
