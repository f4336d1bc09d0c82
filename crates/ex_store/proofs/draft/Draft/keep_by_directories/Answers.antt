use Rattle.ex_store.proofs.RemarkLaws.{draft_with_rows, rows_kept_by}
use Rattle.ex_store.proofs.draft.Draft.keep_by_directories.Goals as goal

pub invariant_of-self : goal.invariant_of-self
invariant_of-self c =
    rw c.keep_by.ensures
    (draft_with_rows _ _ c.self.invariant
    (rows_kept_by c.self.inside.directories.list c.self.inside.files.rows c.self.invariant.directories_within c.self.invariant.rows))

pub returns : goal.returns
returns c = rw (c.keep_by.ensures, ← c.self.view_is)
