use Rattle.std.proofs.Common.{◌≡◌, true, drop, length}
use Rattle.cm_speech.specs.Rules.{are_texts}
use Rattle.cm_hooks.specs.Among.{goes_on, rests, under}
use Rattle.cm_hooks.proofs.Joins.{joined_all, under_from}
use Rattle.cm_speech.proofs.among.complete_among.Given as goal

abbrev pub invariant-loop-name : goal.invariant-loop-name
invariant-loop-name l =
    (joined_all l.tail (rests (length l.atom) (under_from l.whole l.name-index (drop l.name-index l.names) l.atom))
    ≡ goes_on (rests (length l.atom) (under l.names l.atom)))
    × (are_texts (drop l.name-index l.names) ≡ true)
