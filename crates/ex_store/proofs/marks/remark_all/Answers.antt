use Rattle.std.proofs.Common.{◌<◌, ◌+◌, List, [], None, false, length, drop, ap, arith, ◌∙◌}
use Rattle.std.proofs.lemmas.List.{length-set}
use Rattle.cm_lists.proofs.Quantifiers.{all_below}
use Rattle.ex_store.specs.declared.row.Row.{Row}
use Rattle.ex_store.specs.Positions.{all_changed_at}
use Rattle.ex_store.specs.Rows.{with_remark}
use Rattle.ex_store.proofs.RemarkLaws.{changed_more}
use Rattle.ex_store.proofs.marks.remark_all.Goals as goal

-- is where a place is past the end, which none is
no_row : Row
no_row = record {
  key = record { directory = []; name = []; kind = [] };
  file = record { generation = 0; deleted = false; keep = 0; moment = 0; read = None; bytes = [] };
}

pub remark-requires : goal.remark-requires
remark-requires c =
    let first : c.from.result < length c.args.files.now.rows =
    all_below c.args.positions.now (length c.args.files.now.rows) c.loop-at.at-index c.from.result c.requires c.loop-at-test.true c.from.ensures in
    omega (arith, first, c.loop-at.invariant.size)

pub loop-at-preserved : goal.loop-at-preserved
loop-at-preserved c =
    let first : c.from.result < length c.args.files.now.rows =
    all_below c.args.positions.now (length c.args.files.now.rows) c.loop-at.at-index c.from.result c.requires c.loop-at-test.true c.from.ensures in
    let below : c.from.result < length c.loop-at.files.rows = omega (arith, first, c.loop-at.invariant.size) in
    record {
      changed =
          ap (λ (it : List Row). all_changed_at (with_remark c.args.remark) it (drop (c.loop-at.at-index + 1) c.args.positions.now)) (c.remark.ensures.rows no_row)
          ∙ changed_more (with_remark c.args.remark) c.loop-at.files.rows c.args.positions.now c.loop-at.at-index c.from.result no_row
          c.loop-at-test.true c.from.ensures below ∙ c.loop-at.invariant.changed;
      size = ap (λ (it : List Row). length it) (c.remark.ensures.rows no_row) ∙ length-set c.loop-at.files.rows c.from.result _ ∙ c.loop-at.invariant.size;
      rooms = c.remark.ensures.rooms ∙ c.loop-at.invariant.rooms;
    }
