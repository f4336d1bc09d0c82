-- The names from here on are left to be looked at.
use Rattle.std.proofs.Common.{◌≡◌, ◌≤◌}
use Rattle.cm_text.specs.declared.name.TheConstants.{NAME_LIMIT}
use Rattle.cm_help.specs.Names.{listed, longest}
use Rattle.cm_help.proofs.Columns.{rest}
use Rattle.cm_help.proofs.names.longest.Given as goal

abbrev pub invariant-loop-number : goal.invariant-loop-number
invariant-loop-number g l =
    let names = (g.R.Rules.meanings l.rules).names l.id in
    (longest l.size (rest l.atom names l.number l.left) ≡ longest 0 (listed l.atom names)) × (l.size ≤ NAME_LIMIT)
