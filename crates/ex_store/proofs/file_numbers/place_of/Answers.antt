use Rattle.std.proofs.Common.{◌+◌, nat_lt, rules, sym, arith}
use Rattle.std.proofs.lemmas.List.Sorted.{IsPartitionPoint-from_clause}
use Rattle.cm_lists.proofs.Prefixes.{prefix_len_at}
use Rattle.ex_store.specs.declared.family.Family.{Family}
use Rattle.ex_store.proofs.FileNumbersLaws.{StandsUnder, counted_taken, ends_fall, found_under}
use Rattle.ex_store.proofs.file_numbers.place_of.Goals as goal

pub files_before-requires-clause-counted : goal.files_before-requires-clause-counted
files_before-requires-clause-counted c = counted_taken 0 c.args.families.now c.seek-n.result c.requires.counted

stands : (c : goal.After-files_before) → StandsUnder c.args.families.now 0 c.args.i c.seek-n.result
stands c =
    let test = λ (family : Family). nat_lt family.end (c.args.i + 1) in
    let point = IsPartitionPoint-from_clause test c.args.families.now c.seek-n.result c.seek-n.ensures.parted
    (ends_fall c.args.families.now (c.args.i + 1) c.requires.counted) (λ a r f k. search rules) in
    found_under c.args.families.now c.args.i c.seek-n.result c.requires.counted c.requires.within
    (sym (prefix_len_at test c.args.families.now c.seek-n.result c.seek-n.ensures.bound point.0 point.1))

pub overflow_sub-result : goal.overflow_sub-result
overflow_sub-result c = let from = (stands c).from in omega (arith, c.files_before.ensures, from)

pub returns-clause-family : goal.returns-clause-family
returns-clause-family c = (stands c).within

pub returns-clause-file : goal.returns-clause-file
returns-clause-file c = λ d. let inside = (stands c).inside d in omega (arith, c.files_before.ensures, inside)

pub returns-clause-number : goal.returns-clause-number
returns-clause-number c = let from = (stands c).from in omega (arith, c.files_before.ensures, from)
