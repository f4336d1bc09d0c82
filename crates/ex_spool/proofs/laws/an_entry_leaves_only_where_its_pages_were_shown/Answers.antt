use Rattle.ex_spool.proofs.Queues.{leaves_shown}
use Rattle.ex_spool.proofs.laws.an_entry_leaves_only_where_its_pages_were_shown.Goals as goal

pub returns : goal.returns
returns c = leaves_shown
