use Rattle.std.proofs.Common.{◌≡◌, true, drop, length, map}
use Rattle.cm_hooks.specs.Among.{are_names, goes_on, rests, under}
use Rattle.cm_hooks.proofs.Joins.{joined_all, under_from}
use Rattle.cm_hooks.proofs.among.completion_among.Given as goal

abbrev pub invariant-loop-name : goal.invariant-loop-name
invariant-loop-name g l =
    (joined_all l.tail (rests (length l.atom) (under_from l.whole l.name-index (map g.T.AsStr.text (drop l.name-index l.names)) l.atom))
    ≡ goes_on (rests (length l.atom) (under (map g.T.AsStr.text l.names) l.atom)))
    × (are_names (map g.T.AsStr.text (drop l.name-index l.names)) ≡ true)
