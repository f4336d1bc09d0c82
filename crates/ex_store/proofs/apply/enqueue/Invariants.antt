use Rattle.std.proofs.Common.{◌≡◌, ◌+◌, ◌++◌, length, vec_capacity, vec_len}
use Rattle.ex_store.proofs.apply.enqueue.Given as goal

abbrev pub invariant-loop-entry : goal.invariant-loop-entry
invariant-loop-entry l = record {
  done : l.queue.items ≡ l.fn.queue.items ++ l.yielded;
  len : vec_len l.queue ≡ vec_len l.fn.queue + length l.yielded;
  capacity : vec_capacity l.queue ≡ vec_capacity l.fn.queue;
}
