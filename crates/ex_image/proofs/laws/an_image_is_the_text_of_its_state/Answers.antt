use Rattle.ex_image.proofs.Versions.{first_is, second_is}
use Rattle.ex_image.proofs.laws.an_image_is_the_text_of_its_state.Goals as goal

pub returns-clause-second : goal.returns-clause-second
returns-clause-second c = second_is

pub returns-clause-first : goal.returns-clause-first
returns-clause-first c = first_is
