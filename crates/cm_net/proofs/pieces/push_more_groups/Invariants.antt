use Rattle.std.proofs.Common.{◌≡◌, ◌+◌, ◌*◌, ◌≤◌, ◌∷◌, ◌++◌, drop, length}
use Rattle.std.specs.List.{flat_map}
use Rattle.std.specs.Net.Text.{hex}
use Rattle.cm_net.proofs.pieces.push_more_groups.Given as goal

-- the segments that are left, put after what is there, make the whole
abbrev pub invariant-loop-segment : goal.invariant-loop-segment
invariant-loop-segment l = record {
  whole : l.text.bytes ++ flat_map (λ t. 58 ∷ hex t) (drop l.segment-index l.segments)
      ≡ l.fn.text.bytes ++ flat_map (λ t. 58 ∷ hex t) l.segments;
  size : length l.text.bytes ≤ length l.fn.text.bytes + 5 * l.segment-index;
}
