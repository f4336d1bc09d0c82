use Rattle.std.proofs.Common.{List, filter, length, ap, arith, ◌∙◌}
use Rattle.ex_store.specs.declared.row.Row.{Row}
use Rattle.ex_commands.specs.Replies.{is_within}
use Rattle.ex_commands.proofs.ElementLines.{is_first}
use Rattle.ex_commands.proofs.DayLines.{counted_next}
use Rattle.ex_commands.proofs.lines.count_files.Goals as goal

pub loop-row-init : goal.loop-row-init
loop-row-init c =
    let same = c.into_iter-row-iterator.ensures.into_iter_gives in
    let all = ap (λ (rows : List Row). length (filter (is_within c.args.days) rows)) (same ∙ c.sources-row-items.ensures.value) in
    record {
      counted = omega (arith, all);
      few = omega (arith, ap length same, c.sources-row-items.ensures.few);
      lawful = rw same c.sources-row-items.ensures.lawful;
    }

pub count_within-count-requires : goal.count_within-count-requires
count_within-count-requires c =
    (is_first c.args.store.now.state.directories _ _ _ c.in-Some.ensures.steps c.loop-row.invariant.lawful).moment

pub loop-row-preserved : goal.loop-row-preserved
loop-row-preserved c =
    let next = c.in-Some.ensures.steps in
    let few = c.count_within-count.ensures.few in
    let size = ap length next in
    record {
      counted = counted_next c.args.days _ _ _ _ _ _ next c.count_within-count.ensures.count c.loop-row.invariant.counted;
      few = omega (arith, c.loop-row.invariant.few);
      lawful = (is_first c.args.store.now.state.directories _ _ _ next c.loop-row.invariant.lawful).lawful;
    }
