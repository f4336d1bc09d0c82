use Rattle.std.proofs.Common.{◌≡◌, ◌+◌, List, [], ◌∷◌, ◌++◌, append_assoc, ap, length, length-append, arith, ◌∙◌}
use Rattle.ex_store.specs.declared.queue.QueueEntry.{QueueEntry}
use Rattle.ex_store.proofs.apply.enqueue.Goals as goal

pub loop-entry-preserved : goal.loop-entry-preserved
loop-entry-preserved c =
    let longer : length (c.loop-entry.yielded ++ c.in-Some.entry ∷ []) ≡ length c.loop-entry.yielded + 1 = length-append c.loop-entry.yielded (c.in-Some.entry ∷ []) in
    record {
      done = c.put_last.ensures.items
          ∙ (ap (λ (before : List QueueEntry). before ++ c.in-Some.entry ∷ []) c.loop-entry.invariant.done
          ∙ append_assoc c.args.queue.now.items c.loop-entry.yielded (c.in-Some.entry ∷ []));
      len = omega (arith, longer, c.put_last.ensures.len, c.loop-entry.invariant.len);
      capacity = c.put_last.ensures.capacity ∙ c.loop-entry.invariant.capacity;
    }
