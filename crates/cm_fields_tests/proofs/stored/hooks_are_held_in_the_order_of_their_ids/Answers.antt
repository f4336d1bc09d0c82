use Rattle.cm_fields_tests.proofs.stored.hooks_are_held_in_the_order_of_their_ids.Goals as goal

pub are_rules-requires : goal.are_rules-requires
are_rules-requires g c = record { ties = rw c.lend.ensures c.loop-id.invariant }
