use Rattle.eg_router.proofs.Entries.{may_be_entered}
use Rattle.eg_router.proofs.laws.a_name_that_is_taken_may_be_entered.Goals as goal

pub returns : goal.returns
returns c = may_be_entered
