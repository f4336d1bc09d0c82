use Rattle.ex_batch.proofs.LawLemmas.{line_as_typed}
use Rattle.ex_batch.proofs.laws.a_line_does_what_a_typed_one_does.Goals as goal

pub returns : goal.returns
returns c = line_as_typed
