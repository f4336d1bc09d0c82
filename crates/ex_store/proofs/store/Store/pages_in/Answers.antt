use Rattle.ex_store.proofs.RemarkLaws.{rows_short}
use Rattle.ex_store.proofs.store.Store.pages_in.Goals as goal

pub pages_in-requires : goal.pages_in-requires
pages_in-requires c = rows_short c.self.inside.directories.list c.self.inside.files.rows c.self.invariant.well.draft.rows
