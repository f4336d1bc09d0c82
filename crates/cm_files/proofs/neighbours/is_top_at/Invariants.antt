use Rattle.cm_files.specs.Catalogue.{row_of, rows_of}
use Rattle.cm_files.specs.Selection.{wanted}
use Rattle.cm_files.proofs.Beside.{IsClear}
use Rattle.std.proofs.Common.{◌+◌}
use Rattle.cm_files.proofs.neighbours.is_top_at.Given as goal

-- none of the rows after this one, up to the next, is seen with its name and type
abbrev pub invariant-loop-next : goal.invariant-loop-next
invariant-loop-next g l =
    IsClear (wanted l.sought) (rows_of (g.N.Names.catalogue l.names) l.directory) (row_of l.directory l.row) (l.i + 1) l.next
