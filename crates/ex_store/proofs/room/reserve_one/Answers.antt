use Rattle.std.proofs.Common.{◌+◌, ℕ, cond, ap, ◌∙◌, arith}
use Rattle.std.specs.Ordering.{is_eq}
use Rattle.std.proofs.lemmas.List.{length-set}
use Rattle.ex_store.specs.declared.family.Family.{Family}
use Rattle.ex_store.specs.Rows.{by_key}
use Rattle.ex_store.proofs.FamiliesLaws.{ascends_set, first_there, first_demand}
use Rattle.ex_store.proofs.RoomLaws.{room_more, rows_kept, demand_set}
use Rattle.ex_store.proofs.room.reserve_one.Goals as goal

pub reserve_one-requires : goal.reserve_one-requires
reserve_one-requires c =
    let first = first_there c.args.key.now c.enter.new.families.items c.in_ok-at.at c.enter.ensures.ascend c.in_ok-at.ensures.within c.in_ok-at.ensures.there in
    let own = first_demand c.args.key.now c.enter.new.families.items c.in_ok-at.at c.index_mut.result.now first in
    let value = ap (λ (it : Family). it.demand) c.index_mut.ensures.value in
    omega (arith, own, value, c.enter.ensures.demand c.args.key.now, c.requires.few)

pub returns-clause-rows : goal.returns-clause-rows
returns-clause-rows c =
    rows_kept c.enter.new.families.items c.in_ok-at.at c.reserve_one.new.self c.index_mut.result.now
    (c.reserve_one.ensures.key ∙ ap (λ (it : Family). it.key) c.index_mut.ensures.value)
    (c.reserve_one.ensures.files ∙ ap (λ (it : Family). it.gens.files) c.index_mut.ensures.value)
    ∙ c.enter.ensures.rows

pub returns-clause-ascend : goal.returns-clause-ascend
returns-clause-ascend c =
    ascends_set c.enter.new.families.items c.in_ok-at.at c.reserve_one.new.self c.index_mut.result.now c.enter.ensures.ascend
    (c.reserve_one.ensures.key ∙ ap (λ (it : Family). it.key) c.index_mut.ensures.value)

pub returns-in_err-reserve_one-clause-rows : goal.returns-in_err-reserve_one-clause-rows
returns-in_err-reserve_one-clause-rows c =
    rows_kept c.enter.new.families.items c.in_ok-at.at c.reserve_one.new.self c.index_mut.result.now
    (c.reserve_one.ensures.key ∙ ap (λ (it : Family). it.key) c.index_mut.ensures.value)
    (c.reserve_one.ensures.files ∙ ap (λ (it : Family). it.gens.files) c.index_mut.ensures.value)
    ∙ c.enter.ensures.rows

pub returns-in_err-reserve_one-clause-ascend : goal.returns-in_err-reserve_one-clause-ascend
returns-in_err-reserve_one-clause-ascend c =
    ascends_set c.enter.new.families.items c.in_ok-at.at c.reserve_one.new.self c.index_mut.result.now c.enter.ensures.ascend
    (c.reserve_one.ensures.key ∙ ap (λ (it : Family). it.key) c.index_mut.ensures.value)

pub returns-clause-demand : goal.returns-clause-demand
returns-clause-demand c =
    λ other. demand_set c.args.key.now other c.enter.new.families.items c.in_ok-at.at c.index_mut.result.now c.reserve_one.new.self c.enter.ensures.ascend
    c.in_ok-at.ensures.within c.in_ok-at.ensures.there
    (c.reserve_one.ensures.key ∙ ap (λ (it : Family). it.key) c.index_mut.ensures.value)
    (c.in_ok-reserve_one.ensures.demand ∙ ap (λ (it : Family). it.demand + 1) c.index_mut.ensures.value)
    ∙ ap (λ (n : ℕ). n + cond (is_eq (by_key c.args.key.now other)) 1 0) (c.enter.ensures.demand other)

pub returns-clause-room : goal.returns-clause-room
returns-clause-room c =
    room_more c.enter.new.families.items c.in_ok-at.at c.reserve_one.new.self c.in_ok-reserve_one.ensures.room (c.enter.ensures.room c.requires.room)

pub returns-clause-lean : goal.returns-clause-lean
returns-clause-lean c = omega (arith, length-set c.enter.new.families.items c.in_ok-at.at c.reserve_one.new.self, c.enter.ensures.lean)

pub returns-in_err-reserve_one-clause-lean : goal.returns-in_err-reserve_one-clause-lean
returns-in_err-reserve_one-clause-lean c = omega (arith, length-set c.enter.new.families.items c.in_ok-at.at c.reserve_one.new.self, c.enter.ensures.lean)
