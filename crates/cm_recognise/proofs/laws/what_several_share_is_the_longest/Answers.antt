use Rattle.cm_recognise.proofs.Candidates.{share_begins, share_is_longest}
use Rattle.cm_recognise.proofs.laws.what_several_share_is_the_longest.Goals as goal

pub returns-clause-shared : goal.returns-clause-shared
returns-clause-shared c = share_begins

pub returns-clause-longest : goal.returns-clause-longest
returns-clause-longest c = share_is_longest
