-- The names from here on are left to be put.
use Rattle.std.proofs.Common.{◌≤◌}
use Rattle.cm_io.proofs.Texts.{Left}
use Rattle.cm_help.specs.Names.{columns, listed}
use Rattle.cm_help.specs.declared.names.TheConstants.{ROW_SIZE}
use Rattle.cm_help.proofs.Columns.{rest}
use Rattle.cm_help.proofs.names.put_columns.Given as goal

abbrev pub invariant-loop-number : goal.invariant-loop-number
invariant-loop-number g l =
    let names = (g.R.Rules.meanings l.rules).names l.id in
    Left g.S.Sink l.fn.out l.out (columns l.width l.taken l.size (rest l.atom names l.number l.left))
    (columns l.width ROW_SIZE 0 (listed l.atom names))
    × (l.taken ≤ ROW_SIZE)
