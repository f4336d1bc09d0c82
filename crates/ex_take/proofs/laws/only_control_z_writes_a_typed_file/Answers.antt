use Rattle.ex_take.proofs.Keys.{only_control_z}
use Rattle.ex_take.proofs.laws.only_control_z_writes_a_typed_file.Goals as goal

pub returns : goal.returns
returns c = only_control_z
