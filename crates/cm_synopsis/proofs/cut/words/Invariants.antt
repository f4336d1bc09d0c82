-- The words so far, and those that are left.
use Rattle.std.proofs.Common.{◌≡◌, ◌++◌, drop}
use Rattle.cm_synopsis.specs.Words.{words_after}
use Rattle.cm_synopsis.proofs.cut.words.Given as goal

abbrev pub invariant-loop-at : goal.invariant-loop-at
invariant-loop-at l = l.made.items ++ words_after l.at l.next (drop l.at l.line) ≡ words_after 0 0 l.line
