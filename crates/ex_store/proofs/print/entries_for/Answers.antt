use Rattle.std.proofs.Common.{◌<◌, length, get_or, ap, ◌∙◌}
use Rattle.cm_lists.proofs.Elements.{get_or_of_some}
use Rattle.cm_lists.proofs.Quantifiers.{all_below_next, all_drop_next}
use Rattle.ex_store.specs.Printing.{entry_for}
use Rattle.ex_store.specs.Views.{row_of_view}
use Rattle.ex_store.proofs.ElementsLaws.{elements_more}
use Rattle.ex_store.proofs.PrintedLaws.{made_more}
use Rattle.ex_store.proofs.print.entries_for.Goals as goal

pub loop-at-preserved : goal.loop-at-preserved
loop-at-preserved c =
    let within : c.from.result < length c.args.files.now.rows = all_below_next _ c.args.positions.now c.loop-at.at-index c.from.result c.loop-at-test.true c.from.ensures c.loop-at.invariant.within in
    record {
      so_far = made_more (entry_for c.args.request.now) (get_or c.args.files.now.rows c.from.result (row_of_view c.row_at.result)) _ _ c.entry_for.result c.loop-at.entries.items c.push.new.self.items _ c.in_ok-push.ensures.items (c.entry_for.ensures ∙ ap (entry_for c.args.request.now) (get_or_of_some c.args.files.now.rows c.from.result (row_of_view c.row_at.result) c.row_at.ensures)) (elements_more c.args.files.now.rows c.args.positions.now c.loop-at.at-index c.from.result (row_of_view c.row_at.result) c.loop-at-test.true c.from.ensures within) c.loop-at.invariant.so_far;
      within = all_drop_next _ c.args.positions.now c.loop-at.at-index 0 c.loop-at-test.true c.loop-at.invariant.within;
    }
