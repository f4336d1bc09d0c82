use Rattle.std.proofs.Common.{◌≤◌, ◌+◌, ◌-◌, ◌*◌, ◌^◌, Bool, length}
use Rattle.std.specs.Fn.{ComputesKey}
use Rattle.cm_lists.proofs.Seeks.{IsSought}
use Rattle.cm_text.proofs.search.seek.Given as goal

abbrev pub invariant-loop-size : goal.invariant-loop-size
invariant-loop-size g l = record {
  callable : goal.F-IsAlwaysCallable g l.is_before;
  within : l.start + l.size ≤ length l.items;
  sought : (test : g.row.T.Denot → Bool) → ComputesKey g.F.FnMut test l.fn.is_before
      → ComputesKey g.F.FnMut test l.is_before × IsSought test l.items l.start l.size;
  later : l.fn.probes ≤ l.probes;
  fewer : 2 ^ (l.probes - l.fn.probes) * l.size ≤ length l.items;
  few : 2 ^ (l.probes - l.fn.probes) ≤ 2 * length l.items + 1;
}

abbrev pub decreases-loop-size : goal.decreases-loop-size
decreases-loop-size g l = l.size
