use Rattle.std.proofs.Common.{◌≡◌, [], drop}
use Rattle.cm_text.specs.ByteSets.{set_of}
use Rattle.cm_synopsis.specs.Kinds.{class_after}
use Rattle.cm_synopsis.proofs.field.class_in.Given as goal

abbrev pub invariant-loop-at : goal.invariant-loop-at
invariant-loop-at l = class_after l.set l.passed (drop l.at l.text) ≡ class_after (set_of []) 0 l.text
