use Rattle.std.proofs.Common.{ap}
use Rattle.std.specs.List.{flat_map}
use Rattle.cm_io.proofs.Texts.{left_less, left_whole}
use Rattle.ex_commands.specs.Replies.{line_of}
use Rattle.ex_commands.proofs.ElementLines.{is_first}
use Rattle.ex_commands.proofs.lines.put_lines.Goals as goal

pub loop-row-init : goal.loop-row-init
loop-row-init g c =
    let same = c.into_iter-row-iterator.ensures.into_iter_gives in
    record {
      left = rw (same, c.sources-row-items.ensures.value) (left_whole _ _ _);
      lawful = rw same c.sources-row-items.ensures.lawful;
    }

pub put_row-requires : goal.put_row-requires
put_row-requires g c =
    let first = is_first c.args.store.now.state.directories _ _ _ c.in-Some.ensures.steps c.loop-row.invariant.lawful in
    record { moment = first.moment; reading = first.reading; short = first.short }

pub loop-row-preserved : goal.loop-row-preserved
loop-row-preserved g c =
    let next = c.in-Some.ensures.steps in
    record {
      left = left_less _ _ _ _ _ _ _ _ c.put_row.ensures c.loop-row.invariant.left (ap (flat_map (line_of c.args.lines)) next);
      lawful = (is_first c.args.store.now.state.directories _ _ _ next c.loop-row.invariant.lawful).lawful;
    }
