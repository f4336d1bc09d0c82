use Rattle.std.proofs.Common.{◌≡◌, ◌+◌, true, List, length, length-append, ap, sym, subst, ◌∙◌}
use Rattle.cm_lists.specs.Ascent.{ascends}
use Rattle.ex_store.specs.declared.family.Family.{Family}
use Rattle.ex_store.specs.declared.row.Row.{Row}
use Rattle.ex_store.specs.Families.{by_family, rows_of}
use Rattle.ex_store.specs.Positions.{elements_at}
use Rattle.ex_store.specs.Renaming.{pair_for}
use Rattle.ex_store.specs.WellFormed.{is_row_among}
use Rattle.ex_store.proofs.RenamedLaws.{IsRenaming, refused_so, renames_more, renames_refused, renaming_start}
use Rattle.ex_store.specs.Views.{row_of_view}
use Rattle.std.specs.List.{list_all}
use Rattle.cm_lists.proofs.Elements.{get_or_of_some}
use Rattle.cm_lists.proofs.Quantifiers.{all_at, all_below}
use Rattle.ex_store.specs.Ready.{is_lawful}
use Rattle.ex_store.specs.declared.ready.RowChange.TheVariants as changes
use Rattle.ex_store.proofs.DoableLaws.{lawful_more}
use Rattle.ex_store.proofs.PositionsLaws.{source_at}
use Rattle.ex_store.proofs.rename.renames.Goals as goal

pub loop-at-init : goal.loop-at-init
loop-at-init c = record {
  renaming = rw (c.in-Ok.ensures.row_changes, c.in-Ok.ensures.pairs, c.in-Ok.ensures.families, c.as_bytes-directory.ensures.value)
      (renaming_start c.args.directories.now.list c.args.from.now c.args.to.now c.args.files.now.rows c.args.positions.now c.requires.rows c.requires.distinct c.requires.inside);
  families = c.in-Ok.ensures.ascend;
  count = ap length c.in-Ok.ensures.pairs;
  lawful = ap (list_all is_lawful) c.in-Ok.ensures.row_changes;
}

pub row_at-source-requires : goal.row_at-source-requires
row_at-source-requires c = all_below c.args.positions.now (length c.args.files.now.rows) c.loop-at.at-index c.from.result c.requires.within c.loop-at-test.true c.from.ensures

pub returns-in-Err-simulate-clause-refused : goal.returns-in-Err-simulate-clause-refused
returns-in-Err-simulate-clause-refused c =
    let at = source_at c.args.files.now.rows c.args.positions.now c.loop-at.at-index c.from.result (row_of_view c.row_at-source.result) c.requires.within c.loop-at-test.true c.from.ensures (get_or_of_some c.args.files.now.rows c.from.result (row_of_view c.row_at-source.result) c.row_at-source.ensures) in
    let renaming = subst (λ (left : List Row). IsRenaming c.args.directories.now.list c.args.from.now c.args.to.now c.args.files.now.rows (elements_at c.args.files.now.rows c.args.positions.now) left c.loop-at.simulation.row_changes.items c.loop-at.simulation.pairs.items (rows_of c.loop-at.simulation.families.items)) at.more c.loop-at.invariant.renaming in
    let form = all_at (is_row_among c.args.directories.now.list) c.args.files.now.rows at.there.0 (row_of_view c.row_at-source.result) c.requires.rows.within at.there.1 in
    refused_so (pair_for c.args.to.now (row_of_view c.row_at-source.result) (rows_of c.loop-at.simulation.families.items)) _ c.in-Err-simulate.refusal
    (λ code none.
    (renames_refused c.args.directories.now.list c.args.from.now c.args.to.now c.args.files.now.rows (elements_at c.args.files.now.rows c.args.positions.now) _ (row_of_view c.row_at-source.result) _ _ _ code form renaming none))
    c.in-Err-simulate.ensures.refused

pub loop-at-preserved : goal.loop-at-preserved
loop-at-preserved c =
    let at = source_at c.args.files.now.rows c.args.positions.now c.loop-at.at-index c.from.result (row_of_view c.row_at-source.result) c.requires.within c.loop-at-test.true c.from.ensures (get_or_of_some c.args.files.now.rows c.from.result (row_of_view c.row_at-source.result) c.row_at-source.ensures) in
    let renaming = subst (λ (left : List Row). IsRenaming c.args.directories.now.list c.args.from.now c.args.to.now c.args.files.now.rows (elements_at c.args.files.now.rows c.args.positions.now) left c.loop-at.simulation.row_changes.items c.loop-at.simulation.pairs.items (rows_of c.loop-at.simulation.families.items)) at.more c.loop-at.invariant.renaming in
    let form = all_at (is_row_among c.args.directories.now.list) c.args.files.now.rows at.there.0 (row_of_view c.row_at-source.result) c.requires.rows.within at.there.1 in
    let count : length c.rename.new.self.pairs.items ≡ c.loop-at.at-index + 1 = rw c.in-Ok-rename.ensures.pairs (length-append _ _ ∙ ap (λ n. n + 1) c.loop-at.invariant.count) in
    record {
      renaming = rw (c.in-Ok-rename.ensures.row_changes, c.in-Ok-rename.ensures.pairs, c.in-Ok-rename.ensures.families, c.in-Ok-simulate.ensures.rows)
          (renames_more c.args.directories.now.list c.args.from.now c.args.to.now c.args.files.now.rows (elements_at c.args.files.now.rows c.args.positions.now) _ (row_of_view c.row_at-source.result) _ _ _ c.in-Ok-simulate.pair c.requires.target form renaming
          c.in-Ok-simulate.ensures.pair);
      families = subst (λ (families : List Family). ascends by_family families ≡ true) (sym c.in-Ok-rename.ensures.families) c.in-Ok-simulate.ensures.ascend;
      count = count;
      lawful = rw c.in-Ok-rename.ensures.row_changes (lawful_more c.loop-at.simulation.row_changes.items (changes.Move c.in-Ok-simulate.pair) c.loop-at.invariant.lawful c.in-Ok-simulate.ensures.numbered);
    }
