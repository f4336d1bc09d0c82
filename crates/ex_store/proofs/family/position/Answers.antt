use Rattle.std.proofs.Common.{◌≡◌, false, length, nat_lt, sym, ap, ◌∙◌}
use Rattle.std.proofs.lemmas.Bool.{both_ways, lt-ltb, ltb-true}
use Rattle.std.proofs.lemmas.List.{get_or_default}
use Rattle.std.specs.Option.{is_some}
use Rattle.std.specs.Ordering.{is_eq}
use Rattle.cm_lists.proofs.Places.{found_at, none_there}
use Rattle.ex_store.specs.declared.key.Key.{Key}
use Rattle.ex_store.specs.Families.{is_under}
use Rattle.ex_store.specs.Rows.{by_key}
use Rattle.ex_store.proofs.FamiliesLaws.{key_place, names_rise}
use Rattle.ex_store.proofs.family.position.Goals as goal

pub returns-in-Some-clause-place : goal.returns-in-Some-clause-place
returns-in-Some-clause-place c =
    found_at (key_place c.args.key.now) c.args.families.now c.place-at.result c.in-Some.family.now c.place-at.ensures.place
    (ltb-true _ _ (sym c.in-Some.ensures.lookup.0)) c.in-Some.ensures.lookup.1
    (ap (λ (it : Key). is_eq (by_key it c.args.key.now)) (sym c.key.ensures) ∙ ap is_eq (sym c.key_cmp.ensures) ∙ sym c.is_eq.ensures ∙ c.if-is_eq.true)

pub returns-in_default-clause-place : goal.returns-in_default-clause-place
returns-in_default-clause-place c =
    none_there (key_place c.args.key.now) c.args.families.now c.place-at.result (names_rise c.args.key.now c.args.families.now c.requires) c.place-at.ensures.place
    (λ d within. ap (is_under c.args.key.now)
    (sym (c.in-Some.ensures.lookup.1 ∙ get_or_default c.args.families.now c.place-at.result c.in-Some.family.now d within))
    ∙ ap (λ (it : Key). is_eq (by_key it c.args.key.now)) (sym c.key.ensures) ∙ ap is_eq (sym c.key_cmp.ensures) ∙ sym c.is_eq.ensures ∙ c.if-is_eq.false)

pub returns-in_default-2-clause-place : goal.returns-in_default-2-clause-place
returns-in_default-2-clause-place c =
    let past : nat_lt c.place-at.result (length c.args.families.now) ≡ false = sym c.get.ensures.lookup.0 ∙ ap is_some c.in_default.is in
    none_there (key_place c.args.key.now) c.args.families.now c.place-at.result (names_rise c.args.key.now c.args.families.now c.requires) c.place-at.ensures.place
    (λ d within. absurd (both_ways _ past (lt-ltb _ _ within)))
