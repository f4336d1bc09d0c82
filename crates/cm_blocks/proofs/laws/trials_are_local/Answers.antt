use Rattle.cm_blocks.proofs.Trials.{trial_is_local}
use Rattle.cm_blocks.proofs.laws.trials_are_local.Goals as goal

pub returns : goal.returns
returns c = trial_is_local
