use Rattle.std.proofs.Common.{◌≡◌, ℕ, ◌+◌, ◌-◌, List, get_or, if◌then◌else◌, ap, ◌∙◌, arith}
use Rattle.std.specs.List.{remove}
use Rattle.ex_store.specs.State.{State}
use Rattle.ex_store.specs.declared.queue.QueueEntry.{QueueEntry}
use Rattle.ex_spool.specs.Spool.{is_due}
use Rattle.ex_spool.proofs.Drops.{kept_turn, no_entry}
use Rattle.ex_spool.proofs.due.drop_due.Goals as goal

pub loop-i-preserved : goal.loop-i-preserved
loop-i-preserved c =
    let n : ℕ = c.loop-i.i - 1 in
    let next : n + 1 ≡ c.loop-i.i = omega (arith, c.loop-i-test.true) in
    record {
      within = omega (arith, c.loop-i.invariant.within);
      kept = c.drop_if_due.ensures no_entry
          ∙ ap (λ (it : State). record it {
            queue = if is_due c.args.moment (get_or it.queue (c.loop-i.i - 1) no_entry) then remove it.queue (c.loop-i.i - 1) else it.queue;
          }) c.loop-i.invariant.kept
          ∙ ap (λ (queue : List QueueEntry). record c.args.store.now.state { queue = queue })
          (kept_turn c.args.moment c.args.store.now.state.queue (c.loop-i.i - 1) c.loop-i.i no_entry next c.loop-i.invariant.within);
    }
