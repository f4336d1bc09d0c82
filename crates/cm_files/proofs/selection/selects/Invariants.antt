use Rattle.std.proofs.Common.{◌≡◌, drop}
use Rattle.std.specs.List.{list_any}
use Rattle.cm_files.specs.Catalogue.{rows_of}
use Rattle.cm_files.specs.RowTrials.{may_pass}
use Rattle.cm_files.specs.Selection.{selects, wanted}
use Rattle.cm_files.proofs.selection.selects.Given as goal

-- some of the rest may be selected exactly where some row is
abbrev pub invariant-loop-i : goal.invariant-loop-i
invariant-loop-i g l =
    list_any (may_pass (wanted l.sought)) (drop l.i (rows_of (g.N.Names.catalogue l.names) l.directory))
    ≡ selects (wanted l.sought) (rows_of (g.N.Names.catalogue l.names) l.directory)
