-- What is known so far, with what is left to come.
use Rattle.std.proofs.Common.{◌≡◌, drop, fold, map}
use Rattle.cm_language.specs.Groups.{group_of, is_group, with_new}
use Rattle.cm_language.proofs.known.add_each.Given as goal

abbrev pub invariant-loop-at : goal.invariant-loop-at
invariant-loop-at l =
    fold (with_new is_group) l.known.items (map (group_of l.commands l.ways l.positions) (drop l.at l.firsts))
    ≡ fold (with_new is_group) l.initial.known.items (map (group_of l.commands l.ways l.positions) l.firsts)
