use Rattle.std.proofs.Common.{◌≡◌, ◌+◌, drop}
use Rattle.cm_fields.specs.Skip.{skip, skip_from}
use Rattle.cm_fields.proofs.skipped.skip.Given as goal

-- from here on the text is passed over as from the place on
abbrev pub invariant-loop-size : goal.invariant-loop-size
invariant-loop-size l =
    skip_from l.raw l.comment (l.start + l.size) (drop l.size (drop l.start l.text)) ≡ skip l.raw l.text l.at
