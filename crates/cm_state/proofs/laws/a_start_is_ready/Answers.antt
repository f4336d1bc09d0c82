use Rattle.cm_state.proofs.Starts.{start_is_ready}
use Rattle.cm_state.proofs.laws.a_start_is_ready.Goals as goal

pub returns : goal.returns
returns c = start_is_ready
