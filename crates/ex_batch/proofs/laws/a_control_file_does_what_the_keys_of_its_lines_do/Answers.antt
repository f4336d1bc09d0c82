use Rattle.ex_batch.proofs.TypedRuns.{runs_alike}
use Rattle.ex_batch.proofs.laws.a_control_file_does_what_the_keys_of_its_lines_do.Goals as goal

pub returns : goal.returns
returns c = runs_alike
