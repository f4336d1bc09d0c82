use Rattle.eg_router.proofs.Listings.{is_its_commands}
use Rattle.eg_router.proofs.laws.the_configuration_is_its_commands.Goals as goal

pub returns : goal.returns
returns c = is_its_commands
