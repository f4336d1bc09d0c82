use Rattle.std.proofs.Common.{subst, sym}
use Rattle.ex_store.specs.Ready.{Change, IsFor}
use Rattle.ex_store.proofs.AlikeLaws.{left_to_do}
use Rattle.ex_store.proofs.store.Store.apply.Goals as goal

pub change-requires-clause-for_it : goal.change-requires-clause-for_it
change-requires-clause-for_it c =
    let inside : Change = record {
      directory = c.ready.inside.directory;
      definition = c.ready.inside.definition;
      reading = c.ready.inside.reading;
      row_changes = c.ready.inside.row_changes.items;
      entries = c.ready.inside.entries.items;
      pairs = c.ready.inside.pairs.items;
    } in
    let for_it : IsFor inside c.args.self.now = subst (λ (change : Change). IsFor change c.args.self.now) (sym c.ready.view_is) c.requires in
    rw (c.take.ensures.after, c.read.ensures, c.take.ensures.value) (left_to_do inside c.args.self.now for_it)
