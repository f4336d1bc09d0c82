use Rattle.ex_store.proofs.SoundLaws.{plan_sound}
use Rattle.ex_store.proofs.laws.a_plan_makes_a_well_formed_state.Goals as goal

pub returns : goal.returns
returns c = plan_sound
