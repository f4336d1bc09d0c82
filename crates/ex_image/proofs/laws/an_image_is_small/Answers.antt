use Rattle.ex_image.proofs.Sizes.{image_size}
use Rattle.ex_image.proofs.laws.an_image_is_small.Goals as goal

pub returns : goal.returns
returns c = image_size
