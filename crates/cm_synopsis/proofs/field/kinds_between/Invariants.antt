-- The kinds so far, the one that is begun, and what is left.
use Rattle.std.proofs.Common.{◌≡◌, ◌-◌, ◌≤◌, [], drop, take}
use Rattle.cm_synopsis.specs.Kinds.{kinds_after}
use Rattle.cm_synopsis.proofs.field.kinds_between.Given as goal

abbrev pub invariant-loop-at : goal.invariant-loop-at
invariant-loop-at l = record {
  same : kinds_after l.lists l.made (take (l.at - l.start) (drop l.start l.text)) (drop l.at l.text)
      ≡ kinds_after l.lists [] [] l.text;
  within : l.start ≤ l.at;
}
