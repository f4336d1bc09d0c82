-- What is left finds what all parts find; no more brackets are open than there were parts.
use Rattle.std.proofs.Common.{◌≡◌, ◌≤◌, None, drop}
use Rattle.cm_graph.specs.Helps.{last_keyword}
use Rattle.cm_graph.proofs.help.last_keyword.Given as goal

abbrev pub invariant-loop-place : goal.invariant-loop-place
invariant-loop-place l = record {
  same : last_keyword l.place l.depth l.found (drop l.place l.parts) ≡ last_keyword 0 0 None l.parts;
  few : l.depth ≤ l.place;
}
