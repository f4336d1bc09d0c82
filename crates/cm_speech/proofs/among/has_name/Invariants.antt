use Rattle.std.proofs.Common.{◌≡◌, drop}
use Rattle.cm_hooks.specs.Among.{has_name}
use Rattle.cm_speech.proofs.among.has_name.Given as goal

abbrev pub invariant-loop-name : goal.invariant-loop-name
invariant-loop-name l =
    has_name (drop l.name-index l.names) l.atom ≡ has_name l.names l.atom
