use Rattle.std.proofs.Common.{◌≡◌, drop}
use Rattle.cm_synopsis.specs.Kinds.{place_of}
use Rattle.cm_synopsis.proofs.field.place_of.Given as goal

abbrev pub invariant-loop-place : goal.invariant-loop-place
invariant-loop-place l = place_of l.place l.text (drop l.place l.lists) ≡ place_of 0 l.text l.lists
