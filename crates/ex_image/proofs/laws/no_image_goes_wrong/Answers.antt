use Rattle.ex_image.proofs.Endings.{never_bad}
use Rattle.ex_image.proofs.laws.no_image_goes_wrong.Goals as goal

pub returns : goal.returns
returns c = never_bad
