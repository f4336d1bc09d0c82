use Rattle.ex_commands.proofs.Soundness.{act_sound}
use Rattle.ex_commands.proofs.laws.an_act_leaves_a_well_formed_state.Goals as goal

pub returns : goal.returns
returns c = act_sound
