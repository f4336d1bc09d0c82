use Rattle.ex_store.proofs.RemarkLaws.{rows_expunged, rows_short, well_formed_with_rows}
use Rattle.ex_store.proofs.store.Store.expunge.Goals as goal

pub expunge-pages-requires : goal.expunge-pages-requires
expunge-pages-requires c =
    rows_short c.self.inside.directories.list c.self.inside.files.rows c.self.invariant.well.draft.rows

pub firsts_in-self-inside-requires-clause-rows : goal.firsts_in-self-inside-requires-clause-rows
firsts_in-self-inside-requires-clause-rows c =
    rw c.expunge-pages.ensures.rows
    (rows_expunged c.self.inside.directories.list c.as_bytes.result.now c.self.inside.files.rows c.self.invariant.well.draft.rows).few

pub invariant_of-self : goal.invariant_of-self
invariant_of-self c = record {
  well = rw c.expunge-pages.ensures.rows
      (well_formed_with_rows _ _ c.self.invariant.well
      (rows_expunged c.self.inside.directories.list c.as_bytes.result.now c.self.inside.files.rows c.self.invariant.well.draft.rows));
  places = c.firsts_in-self-inside.ensures;
}
