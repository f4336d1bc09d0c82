use Rattle.std.proofs.Common.{◌≡◌, ◌≤◌, List, None, Some, get_or, length, position, take, sym, ap, subst, ◌∙◌, arith}
use Rattle.std.specs.Ordering.{is_eq, is_lt}
use Rattle.std.proofs.lemmas.List.Edits.{get_or-insert_at, length-insert}
use Rattle.std.proofs.lemmas.List.Sums.{prefix_len-le-length}
use Rattle.cm_lists.specs.Ascent.{ascends}
use Rattle.ex_store.specs.declared.family.Family.{Family}
use Rattle.ex_store.specs.declared.key.Key.{Key}
use Rattle.ex_store.specs.Families.{EachHasRoom, by_family, is_under, rows_of, demand_at}
use Rattle.ex_store.specs.Rows.{by_key}
use Rattle.ex_store.proofs.FamiliesLaws.{ascends_entered, front_entered, rows_entered, under_found}
use Rattle.ex_store.proofs.FamilyLaws.{key_own}
use Rattle.ex_store.proofs.RoomLaws.{room_entered, demand_entered}
use Rattle.ex_store.proofs.family.enter.Goals as goal

pub returns-in-Some-clause-there : goal.returns-in-Some-clause-there
returns-in-Some-clause-there c =
    let found : position (is_under c.args.key.now) c.args.families.now.items ≡ Some c.in-Some.at = rw (← c.deref.ensures.value) (sym c.position.ensures.place ∙ c.in-Some.is) in
    λ d. under_found c.args.key.now c.args.families.now.items c.in-Some.at d found

pub insert-requires : goal.insert-requires
insert-requires c =
    omega (arith, c.place-at.ensures.place, c.deref-2.ensures.len, prefix_len-le-length (λ (family : Family). is_lt (by_key family.key c.args.key.now)) c.deref-2.result.now)

pub returns-clause-rows : goal.returns-clause-rows
returns-clause-rows c =
    let within : c.place-at.result ≤ length c.args.families.now.items = rw (← c.deref-2.ensures.value) (omega (arith, c.place-at.ensures.place, prefix_len-le-length (λ (family : Family). is_lt (by_key family.key c.args.key.now)) c.deref-2.result.now)) in
    ap rows_of c.in_ok-insert.ensures.items
    ∙ rows_entered c.args.families.now.items c.place-at.result c.in_ok-family.family within (ap (λ (it : Family). it.gens.files) c.in_ok-family.ensures)

pub returns-clause-ascend : goal.returns-clause-ascend
returns-clause-ascend c =
    let none : position (is_under c.args.key.now) c.args.families.now.items ≡ None = rw (← c.deref.ensures.value) (sym c.position.ensures.place ∙ c.in_default.is) in
    ap (ascends by_family) c.in_ok-insert.ensures.items
    ∙ ascends_entered c.args.key.now c.args.families.now.items c.place-at.result c.in_ok-family.family
    c.requires (rw (← c.deref-2.ensures.value) c.place-at.ensures.place) (ap (λ (it : Family). it.key) c.in_ok-family.ensures ∙ c.copy.ensures) none

pub returns-clause-there : goal.returns-clause-there
returns-clause-there c =
    let within : c.place-at.result ≤ length c.args.families.now.items = rw (← c.deref-2.ensures.value) (omega (arith, c.place-at.ensures.place, prefix_len-le-length (λ (family : Family). is_lt (by_key family.key c.args.key.now)) c.deref-2.result.now)) in
    λ d. ap (λ (it : List Family). is_under c.args.key.now (get_or it c.place-at.result d)) c.in_ok-insert.ensures.items
    ∙ ap (is_under c.args.key.now) (get_or-insert_at c.args.families.now.items c.place-at.result c.in_ok-family.family d within)
    ∙ ap (λ (it : Key). is_eq (by_key it c.args.key.now)) (ap (λ (it : Family). it.key) c.in_ok-family.ensures ∙ c.copy.ensures)
    ∙ key_own c.args.key.now

pub returns-clause-front : goal.returns-clause-front
returns-clause-front c =
    let within : c.place-at.result ≤ length c.args.families.now.items = rw (← c.deref-2.ensures.value) (omega (arith, c.place-at.ensures.place, prefix_len-le-length (λ (family : Family). is_lt (by_key family.key c.args.key.now)) c.deref-2.result.now)) in
    ap (λ (it : List Family). take c.place-at.result it) c.in_ok-insert.ensures.items
    ∙ front_entered c.args.families.now.items c.place-at.result c.in_ok-family.family within

pub returns-clause-demand : goal.returns-clause-demand
returns-clause-demand c =
    let within : c.place-at.result ≤ length c.args.families.now.items = rw (← c.deref-2.ensures.value) (omega (arith, c.place-at.ensures.place, prefix_len-le-length (λ (family : Family). is_lt (by_key family.key c.args.key.now)) c.deref-2.result.now)) in
    let none : position (is_under c.args.key.now) c.args.families.now.items ≡ None = rw (← c.deref.ensures.value) (sym c.position.ensures.place ∙ c.in_default.is) in
    λ other. ap (demand_at other) c.in_ok-insert.ensures.items
    ∙ demand_entered c.args.key.now other c.args.families.now.items c.place-at.result c.in_ok-family.family
    within (ap (λ (it : Family). it.key) c.in_ok-family.ensures ∙ c.copy.ensures) (ap (λ (it : Family). it.demand) c.in_ok-family.ensures) none

pub returns-clause-room : goal.returns-clause-room
returns-clause-room c =
    λ have. subst EachHasRoom (sym c.in_ok-insert.ensures.items)
    (room_entered c.args.families.now.items c.place-at.result c.in_ok-family.family (ap (λ (it : Family). it.demand) c.in_ok-family.ensures) have)

pub returns-clause-lean : goal.returns-clause-lean
returns-clause-lean c =
    let within : c.place-at.result ≤ length c.args.families.now.items = rw (← c.deref-2.ensures.value) (omega (arith, c.place-at.ensures.place, prefix_len-le-length (λ (family : Family). is_lt (by_key family.key c.args.key.now)) c.deref-2.result.now)) in
    let size = ap (λ (it : List Family). length it) c.in_ok-insert.ensures.items in
    omega (arith, size, length-insert c.args.families.now.items c.place-at.result c.in_ok-family.family within)
