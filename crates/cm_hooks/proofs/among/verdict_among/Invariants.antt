use Rattle.std.proofs.Common.{◌≡◌, drop, map}
use Rattle.cm_hooks.specs.Among.{only, under}
use Rattle.cm_hooks.proofs.Joins.{only_with, under_from}
use Rattle.cm_hooks.proofs.among.verdict_among.Given as goal

abbrev pub invariant-loop-number : goal.invariant-loop-number
invariant-loop-number g l =
    only_with l.found (under_from l.whole l.number (map g.T.AsStr.text (drop l.number l.names)) l.atom)
    ≡ only (under (map g.T.AsStr.text l.names) l.atom)
