use Rattle.std.proofs.Common.{◌≡◌, ◌++◌, true, drop, map}
use Rattle.cm_lists.proofs.Ascents.{is_sorted}
use Rattle.ex_store.specs.declared.family.Family.{Family}
use Rattle.ex_store.specs.Families.{rows_of}
use Rattle.ex_store.specs.Rows.{blank, by_key, rows_in_either}
use Rattle.ex_store.proofs.family.blanks.Given as goal

abbrev pub invariant-loop-family : goal.invariant-loop-family
invariant-loop-family l = record {
  so_far : rows_of l.blanks.items ++ map blank (rows_in_either l.from l.to (rows_of (drop l.family-index l.families)))
      ≡ map blank (rows_in_either l.from l.to (rows_of l.families));
  sorted : is_sorted by_key (map (λ (family : Family). family.key) l.blanks.items ++ map (λ (family : Family). family.key) (drop l.family-index l.families)) ≡ true;
}
