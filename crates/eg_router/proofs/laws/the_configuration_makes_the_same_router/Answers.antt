use Rattle.eg_router.proofs.Listings.{makes_the_same}
use Rattle.eg_router.proofs.laws.the_configuration_makes_the_same_router.Goals as goal

pub returns : goal.returns
returns c = makes_the_same
