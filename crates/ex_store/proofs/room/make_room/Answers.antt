use Rattle.std.proofs.Common.{◌≡◌, ℕ, List, length, subst, sym, ap, ◌∙◌, take, arith}
use Rattle.std.proofs.Math.Seq.{take-length}
use Rattle.std.proofs.lemmas.List.{length-map}
use Rattle.ex_store.specs.declared.family.Family.{Family}
use Rattle.std.proofs.lemmas.Grind.{common_steps}
use Rattle.ex_store.specs.Families.{EachHasRoom, rows_of, without_demand, demand_at}
use Rattle.ex_store.specs.Ready.{count_under}
use Rattle.ex_store.proofs.RoomLaws.{ascends_without_demand, room_for, room_without_demand, rows_without_demand, demand_none}
use Rattle.ex_store.proofs.room.make_room.Goals as goal

pub loop-change-init : goal.loop-change-init
loop-change-init c =
    let families = c.drop_empty.new.families.items in
    let none : c.clear_demand.new.families.items ≡ without_demand families = c.clear_demand.ensures in
    record {
      rows = ap rows_of none ∙ rows_without_demand families ∙ c.drop_empty.ensures.rows;
      ascend = rw none (ascends_without_demand families c.drop_empty.ensures.ascend);
      demand = λ key. ap (demand_at key) none ∙ demand_none key families;
      room = subst EachHasRoom (sym none) (room_without_demand families);
      lean = omega (arith, ap (λ (it : List Family). length it) none, length-map families (λ (family : Family). record family { demand = 0 }), c.drop_empty.ensures.lean);
    }

pub returns-clause-room : goal.returns-clause-room
returns-clause-room c =
    let ended : c.loop-change.change-index ≡ length c.args.changes.now = grind (arith, common_steps) in
    λ key some. room_for key (rows_of c.args.families.now.items) c.loop-change.families.items _ c.loop-change.invariant.ascend c.loop-change.invariant.room
    c.loop-change.invariant.rows
    (c.loop-change.invariant.demand key ∙ ap (λ (n : ℕ). count_under key (take n c.args.changes.now)) ended ∙ ap (count_under key) (take-length c.args.changes.now))
    some
