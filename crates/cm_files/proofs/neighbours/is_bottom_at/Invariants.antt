use Rattle.cm_files.specs.Catalogue.{row_of, rows_of}
use Rattle.cm_files.specs.Selection.{wanted}
use Rattle.cm_files.proofs.Beside.{IsClear}
use Rattle.std.proofs.Common.{◌≤◌}
use Rattle.cm_files.proofs.neighbours.is_bottom_at.Given as goal

-- none of the rows from the last one that was looked at up to this one is seen with its name and type
abbrev pub invariant-loop-after : goal.invariant-loop-after
invariant-loop-after g l = record {
  within : l.after ≤ l.i;
  clear : IsClear (wanted l.sought) (rows_of (g.N.Names.catalogue l.names) l.directory) (row_of l.directory l.row) l.after l.i;
}

-- one row fewer is left each time
abbrev pub decreases-loop-after : goal.decreases-loop-after
decreases-loop-after g l = l.after
