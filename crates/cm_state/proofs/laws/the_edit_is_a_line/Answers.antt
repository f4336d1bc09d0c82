use Rattle.cm_state.proofs.Lines.{edit_is_line}
use Rattle.cm_state.proofs.laws.the_edit_is_a_line.Goals as goal

pub returns : goal.returns
returns c = edit_is_line
