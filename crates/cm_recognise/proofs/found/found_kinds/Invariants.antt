-- The rows from here on, after what is found so far, say what all of them do.
use Rattle.std.proofs.Common.{◌≡◌, drop}
use Rattle.std.specs.List.{filter_map}
use Rattle.cm_files.specs.Catalogue.{rows_of}
use Rattle.cm_recognise.specs.Candidates.{IsFound, found_kinds, gather, kind_like, with_text}
use Rattle.cm_recognise.proofs.found.found_kinds.Given as goal

abbrev pub invariant-loop-i : goal.invariant-loop-i
invariant-loop-i g l = record {
  rest : gather with_text l.found (filter_map (kind_like l.deleted l.name l.typed) (drop l.i (rows_of (g.N.Names.catalogue l.names) l.directory)))
      ≡ found_kinds (rows_of (g.N.Names.catalogue l.names) l.directory) l.deleted l.name l.typed;
  short : IsFound l.found;
}
