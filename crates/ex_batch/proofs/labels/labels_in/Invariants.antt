-- The labels of the lines from the place on are at their places.
use Rattle.std.proofs.Common.{◌≤◌, drop, length}
use Rattle.ex_batch.specs.Labels.{IsIndexFrom}
use Rattle.ex_batch.proofs.labels.labels_in.Given as goal

abbrev pub invariant-loop-place : goal.invariant-loop-place
invariant-loop-place l = record {
  within : l.place ≤ length l.lines;
  index : IsIndexFrom l.place l.labels.entries (drop l.place l.lines);
}

abbrev pub decreases-loop-place : goal.decreases-loop-place
decreases-loop-place l = l.place
