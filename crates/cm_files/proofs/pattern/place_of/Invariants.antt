use Rattle.std.proofs.Common.{◌≡◌, ◌+◌, ◌*◌, ◌≤◌, length, drop}
use Rattle.cm_files.specs.Place.{place_from}
use Rattle.cm_files.proofs.pattern.place_of.Given as goal

-- the first place of the rest is the first of all, and each place before took few bytes
abbrev pub invariant-loop-place : goal.invariant-loop-place
invariant-loop-place l = record {
  same : place_from l.part l.place (drop l.place l.name) ≡ place_from l.part 0 l.name;
  few : l.looked ≤ l.fn.looked + l.place * (length l.part + 1);
}
