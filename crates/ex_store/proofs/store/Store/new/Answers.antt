use Rattle.ex_store.proofs.StateLaws.{first_well_formed}
use Rattle.ex_store.proofs.store.Store.new.Goals as goal

pub invariant_of-result : goal.invariant_of-result
invariant_of-result c = record {
  well = rw (
    c.in_ok-push.ensures.added,
    c.new-directories.ensures,
    c.new.ensures,
    c.new-files.ensures,
    c.new-2.ensures,
    c.new-3.ensures,
    c.new-4.ensures.items,
  ) first_well_formed;
  places = c.firsts_in-firsts.ensures;
}
