use Rattle.std.proofs.Common.{◌++◌, ◌∙◌, ap, arith, get_or, List, ℕ}
use Rattle.std.specs.Net.Text.{hex}
use Rattle.cm_net.proofs.Groups.{group_written}
use Rattle.cm_net.proofs.pieces.push_more_groups.Goals as goal

pub loop-segment-preserved : goal.loop-segment-preserved
loop-segment-preserved c = record {
  whole =
      group_written c.loop-segment.text.bytes c.push_hex.new.text.bytes _ c.args.segments.now c.loop-segment.segment-index
      c.loop-segment-test.true
      (c.push_hex.ensures.bytes ∙ ap (λ (it : List ℕ). it ++ hex (get_or c.args.segments.now c.loop-segment.segment-index 0)) c.push_str.ensures.bytes) c.loop-segment.invariant.whole;
  size = omega arith;
}
