use Rattle.cm_recognise.proofs.Candidates.{found_is_all, nobody_is_found, one_is_found}
use Rattle.cm_recognise.proofs.laws.one_is_found_where_all_are_alike.Goals as goal

pub returns-clause-nobody : goal.returns-clause-nobody
returns-clause-nobody c = nobody_is_found

pub returns-clause-one : goal.returns-clause-one
returns-clause-one c = one_is_found

pub returns-clause-alike : goal.returns-clause-alike
returns-clause-alike c = found_is_all
