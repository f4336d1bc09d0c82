-- The way so far, and the parts that are left.
use Rattle.std.proofs.Common.{◌≡◌, drop}
use Rattle.cm_synopsis.specs.Ways.{first_walk, walk_from}
use Rattle.cm_synopsis.proofs.way.way_of.Given as goal

abbrev pub invariant-loop-place : goal.invariant-loop-place
invariant-loop-place l = walk_from l.place l.walk (drop l.place l.parts) ≡ walk_from 0 first_walk l.parts
