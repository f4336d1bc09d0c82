use Rattle.ex_image.proofs.Versions.{well_formed_image}
use Rattle.ex_image.proofs.laws.an_image_is_of_a_well_formed_state.Goals as goal

pub returns : goal.returns
returns c = well_formed_image
