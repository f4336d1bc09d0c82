use Rattle.std.proofs.Common.{◌≡◌, drop}
use Rattle.std.specs.List.{position_from}
use Rattle.cm_files.specs.Catalogue.{rows_of}
use Rattle.cm_files.specs.Selection.{is_selected, wanted}
use Rattle.cm_files.proofs.neighbours.select.Given as goal

-- the first of the rest is the first of all from that number on
abbrev pub invariant-loop-i : goal.invariant-loop-i
invariant-loop-i g l =
    let rows = rows_of (g.N.Names.catalogue l.names) l.directory in
    let test = is_selected (wanted l.sought) rows in
    position_from test l.i (drop l.i rows) ≡ position_from test l.from (drop l.from rows)
