use Rattle.ex_image.proofs.Versions.{either_version}
use Rattle.ex_image.proofs.laws.an_image_is_of_either_version.Goals as goal

pub returns : goal.returns
returns c = either_version
