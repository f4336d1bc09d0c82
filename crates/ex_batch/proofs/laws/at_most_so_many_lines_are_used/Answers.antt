use Rattle.ex_batch.proofs.LawLemmas.{lines_used}
use Rattle.ex_batch.proofs.laws.at_most_so_many_lines_are_used.Goals as goal

pub returns-clause-few : goal.returns-clause-few
returns-clause-few c = lines_used
