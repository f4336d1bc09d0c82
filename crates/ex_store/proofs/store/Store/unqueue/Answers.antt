use Rattle.std.proofs.Common.{arith, rules}
use Rattle.ex_store.proofs.QueueLaws.{unqueued_well_formed}
use Rattle.ex_store.specs.State.{State}
use Rattle.ex_store.proofs.store.Store.unqueue.Goals as goal

pub invariant_of-self : goal.invariant_of-self
invariant_of-self c =
    let state : State = record {
      directories = c.self.inside.directories.list;
      connected = c.self.inside.connected;
      logical = c.self.inside.logical.list;
      rows = c.self.inside.files.rows;
      queue = c.self.inside.queue.items;
    } in
    rw c.remove.ensures.items (record {
      well = unqueued_well_formed state _ (search (rules, arith)) c.self.invariant.well;
      places = c.self.invariant.places;
    })
