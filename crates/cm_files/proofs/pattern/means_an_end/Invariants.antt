use Rattle.std.proofs.Common.{◌≡◌, ◌+◌, ◌*◌, ◌≤◌, length}
use Rattle.std.specs.List.{prefix_len}
use Rattle.cm_files.specs.Pattern.{is_plain, matches, some_end}
use Rattle.cm_files.proofs.pattern.means_an_end.Given as goal

-- the parts that are left mean some end of what is left of the name, exactly where all mean one of all
abbrev pub invariant-loop-size : goal.invariant-loop-size
invariant-loop-size l = record {
  same : some_end (matches l.parts) l.rest ≡ some_end (matches l.fn.pattern) l.fn.name;
  size : l.size ≡ prefix_len is_plain l.parts;
  few : l.looked + (length l.parts + 1) * (length l.rest + 1) ≤ l.fn.looked + (length l.fn.pattern + 1) * (length l.fn.name + 1);
}

-- each part that is found leaves fewer bytes of the pattern
abbrev pub decreases-loop-size : goal.decreases-loop-size
decreases-loop-size l = length l.parts
