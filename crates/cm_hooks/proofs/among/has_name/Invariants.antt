use Rattle.std.proofs.Common.{◌≡◌, drop, map}
use Rattle.cm_hooks.specs.Among.{has_name}
use Rattle.cm_hooks.proofs.among.has_name.Given as goal

abbrev pub invariant-loop-name : goal.invariant-loop-name
invariant-loop-name g l =
    has_name (map g.T.AsStr.text (drop l.name-index l.names)) l.atom ≡ has_name (map g.T.AsStr.text l.names) l.atom
