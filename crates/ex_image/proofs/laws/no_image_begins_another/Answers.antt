use Rattle.ex_image.proofs.Endings.{nothing_after}
use Rattle.ex_image.proofs.laws.no_image_begins_another.Goals as goal

pub returns : goal.returns
returns c = nothing_after
