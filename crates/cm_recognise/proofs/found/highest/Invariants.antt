-- The rows from here on, after the highest so far, give the highest of all of them.
use Rattle.std.proofs.Common.{◌≡◌, drop}
use Rattle.std.specs.List.{filter_map}
use Rattle.cm_files.specs.Catalogue.{rows_of}
use Rattle.cm_recognise.specs.Candidates.{gather, generation_like, greater, highest}
use Rattle.cm_recognise.proofs.found.highest.Given as goal

abbrev pub invariant-loop-i : goal.invariant-loop-i
invariant-loop-i g l =
    gather greater l.highest (filter_map (generation_like l.deleted l.name l.kind) (drop l.i (rows_of (g.N.Names.catalogue l.names) l.directory)))
    ≡ highest (rows_of (g.N.Names.catalogue l.names) l.directory) l.deleted l.name l.kind
