use Rattle.ex_batch.proofs.TypedLines.{file_as_typed}
use Rattle.ex_batch.proofs.laws.a_control_file_does_what_typed_lines_do.Goals as goal

pub returns : goal.returns
returns c = file_as_typed
