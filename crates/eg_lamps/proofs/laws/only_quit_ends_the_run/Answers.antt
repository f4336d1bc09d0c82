use Rattle.eg_lamps.proofs.Keys.{quit_ends}
use Rattle.eg_lamps.proofs.laws.only_quit_ends_the_run.Goals as goal

pub returns : goal.returns
returns c = quit_ends
