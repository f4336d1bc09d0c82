-- The links so far, and the steps that are left.
use Rattle.std.proofs.Common.{◌≡◌, drop}
use Rattle.cm_synopsis.specs.Ways.{linked}
use Rattle.cm_synopsis.proofs.way.connect.Given as goal

abbrev pub invariant-loop-from : goal.invariant-loop-from
invariant-loop-from l = linked l.links.items (drop l.from-index l.froms) l.tos ≡ linked l.fn.links.items l.froms l.tos
