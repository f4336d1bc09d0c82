-- The directories from here on, after what is found so far, say what all of them do.
use Rattle.std.proofs.Common.{◌≡◌, drop}
use Rattle.std.specs.List.{filter_map}
use Rattle.cm_recognise.specs.Candidates.{IsFound, found_users, gather, user_like, with_text}
use Rattle.cm_recognise.proofs.found.found_users.Given as goal

abbrev pub invariant-loop-i : goal.invariant-loop-i
invariant-loop-i g l = record {
  rest : gather with_text l.found (filter_map (user_like l.typed) (drop l.i (g.N.Names.catalogue l.names).directories))
      ≡ found_users (g.N.Names.catalogue l.names) l.typed;
  short : IsFound l.found;
}
