use Rattle.cm_state.proofs.Starts.{start_parses}
use Rattle.cm_state.proofs.laws.a_start_is_a_parse.Goals as goal

pub returns : goal.returns
returns c = start_parses
