-- The links so far.
use Rattle.std.proofs.Common.{◌≡◌, ◌++◌, map, take}
use Rattle.cm_synopsis.proofs.way.connect_from.Given as goal

abbrev pub invariant-loop-to : goal.invariant-loop-to
invariant-loop-to l =
    l.links.items ≡ l.fn.links.items ++ map (λ to. record { from = l.from; to = to }) (take l.to-index l.tos)
