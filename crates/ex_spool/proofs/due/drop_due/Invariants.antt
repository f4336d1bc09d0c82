-- From here on the queue has only the entries that are not due.
use Rattle.std.proofs.Common.{◌≡◌, ◌≤◌, length}
use Rattle.ex_spool.proofs.Drops.{kept_from}
use Rattle.ex_spool.proofs.due.drop_due.Given as goal

abbrev pub invariant-loop-i : goal.invariant-loop-i
invariant-loop-i l = record {
  within : l.i ≤ length l.fn.store.state.queue;
  kept : l.store.state ≡ record l.fn.store.state { queue = kept_from l.moment l.fn.store.state.queue l.i };
}

abbrev pub decreases-loop-i : goal.decreases-loop-i
decreases-loop-i l = l.i
