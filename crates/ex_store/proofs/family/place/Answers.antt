use Rattle.std.proofs.Common.{rules, sym}
use Rattle.std.specs.Ordering.{is_lt}
use Rattle.std.proofs.lemmas.List.Sorted.{IsPartitionPoint-from_clause}
use Rattle.cm_lists.proofs.Places.{lower_falls, parted}
use Rattle.cm_lists.proofs.Prefixes.{prefix_len_at}
use Rattle.ex_store.specs.declared.family.Family.{Family}
use Rattle.ex_store.proofs.FamiliesLaws.{key_place, names_rise}
use Rattle.ex_store.proofs.family.place.Goals as goal

pub returns-clause-place : goal.returns-clause-place
returns-clause-place c =
    let test = λ (family : Family). is_lt (key_place c.args.key.now family) in
    let falls = parted is_lt lower_falls (key_place c.args.key.now) c.args.families.now (names_rise c.args.key.now c.args.families.now c.requires) in
    let point = IsPartitionPoint-from_clause test c.args.families.now c.seek.result c.seek.ensures.parted falls
    (λ a r f k. search rules) in
    sym (prefix_len_at test c.args.families.now c.seek.result c.seek.ensures.bound point.0 point.1)
