-- The names so far, and the words that are left.
use Rattle.std.proofs.Common.{◌≡◌, [], drop}
use Rattle.cm_synopsis.specs.Sayings.{names_after}
use Rattle.cm_synopsis.proofs.saying.names_of.Given as goal

abbrev pub invariant-loop-word : goal.invariant-loop-word
invariant-loop-word l = names_after l.line l.names.items (drop l.word-index l.words) ≡ names_after l.line [] l.words
