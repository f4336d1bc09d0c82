use Rattle.std.proofs.Common.{◌<◌, length, get_or, ap}
use Rattle.cm_lists.proofs.Elements.{get_or_of_some}
use Rattle.cm_lists.proofs.Quantifiers.{all_below_next, all_drop_next}
use Rattle.ex_store.specs.Views.{row_of_view}
use Rattle.ex_store.proofs.ElementsLaws.{elements_more}
use Rattle.ex_store.proofs.PrintedLaws.{made_more, own_pair}
use Rattle.ex_store.proofs.print.own_pairs.Goals as goal

pub loop-at-preserved : goal.loop-at-preserved
loop-at-preserved c =
    let within : c.from.result < length c.args.files.now.rows = all_below_next _ c.args.positions.now c.loop-at.at-index c.from.result c.loop-at-test.true c.from.ensures c.loop-at.invariant.within in
    record {
      so_far = made_more own_pair (get_or c.args.files.now.rows c.from.result (row_of_view c.row_at-row.result)) _ _ _ c.loop-at.pairs.items c.push.new.self.items _ c.in_ok-push.ensures.items (rw (c.full_name.ensures, c.full_name-in-loop-at.ensures) (ap own_pair (get_or_of_some c.args.files.now.rows c.from.result (row_of_view c.row_at-row.result) c.row_at-row.ensures))) (elements_more c.args.files.now.rows c.args.positions.now c.loop-at.at-index c.from.result (row_of_view c.row_at-row.result) c.loop-at-test.true c.from.ensures within) c.loop-at.invariant.so_far;
      within = all_drop_next _ c.args.positions.now c.loop-at.at-index 0 c.loop-at-test.true c.loop-at.invariant.within;
    }
