use Rattle.std.proofs.Common.{refl}
use Rattle.std.specs.Fmt.{digits}
use Rattle.ex_image.proofs.laws.a_new_store_has_this_image.Goals as goal

pub returns : goal.returns
unfolding digits
returns c = refl
