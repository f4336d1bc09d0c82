use Rattle.cm_run.proofs.LawLemmas.{cut_is_exact}
use Rattle.cm_run.proofs.laws.what_stands_at_a_cut_is_exact.Goals as goal

pub returns : goal.returns
returns g c = cut_is_exact
