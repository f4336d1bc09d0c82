use Rattle.cm_state.specs.LabelLaws.{label_has_name}
use Rattle.cm_state.proofs.laws.a_label_has_its_name.Goals as goal

pub returns : goal.returns
returns c = label_has_name
