use Rattle.ex_image.proofs.Endings.{one_state}
use Rattle.ex_image.proofs.laws.an_image_is_of_one_state.Goals as goal

pub returns : goal.returns
returns c = one_state
