use Rattle.std.proofs.Common.{◌≡◌, drop}
use Rattle.cm_hooks.specs.Among.{only, under}
use Rattle.cm_hooks.proofs.Joins.{only_with, under_from}
use Rattle.cm_speech.proofs.among.judge_among.Given as goal

abbrev pub invariant-loop-number : goal.invariant-loop-number
invariant-loop-number l =
    only_with l.found (under_from l.whole l.number (drop l.number l.names) l.atom)
    ≡ only (under l.names l.atom)
