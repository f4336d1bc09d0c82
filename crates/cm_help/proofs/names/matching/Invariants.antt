-- The names from here on are left to be counted.
use Rattle.std.proofs.Common.{◌≡◌, ◌≤◌, ◌+◌, drop, length}
use Rattle.cm_help.specs.Names.{matching}
use Rattle.cm_help.proofs.names.matching.Given as goal

abbrev pub invariant-loop-number : goal.invariant-loop-number
invariant-loop-number g l =
    let names = (g.R.Rules.meanings l.rules).names l.id in
    (l.count + length (matching l.atom (drop l.number names)) ≡ length (matching l.atom names)) × (l.count ≤ l.number)
