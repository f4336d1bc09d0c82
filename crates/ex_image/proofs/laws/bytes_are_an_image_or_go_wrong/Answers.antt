use Rattle.ex_image.proofs.Endings.{judged}
use Rattle.ex_image.proofs.laws.bytes_are_an_image_or_go_wrong.Goals as goal

pub returns : goal.returns
returns c = judged
