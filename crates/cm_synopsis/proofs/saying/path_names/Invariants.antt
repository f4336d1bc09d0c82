-- The keywords so far, and the words that are left.
use Rattle.std.proofs.Common.{◌≡◌, [], drop}
use Rattle.cm_synopsis.specs.Sayings.{path_names}
use Rattle.cm_synopsis.proofs.saying.path_names.Given as goal

abbrev pub invariant-loop-word : goal.invariant-loop-word
invariant-loop-word l = path_names l.line l.names.items (drop l.word-index l.words) ≡ path_names l.line [] l.words
