use Rattle.ex_store.proofs.ExpungedLaws.{expunged_rows}
use Rattle.ex_store.proofs.laws.what_is_expunged_was_marked.Goals as goal

pub returns : goal.returns
returns c = expunged_rows
