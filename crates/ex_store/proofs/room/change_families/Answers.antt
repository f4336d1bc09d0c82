use Rattle.std.proofs.Common.{rules}
use Rattle.std.proofs.lemmas.Iterator.Adapters.{YieldsList-from_vec}
use Rattle.std.proofs.lemmas.Iterator.Consumers.{YieldsList-so_far, YieldsList-turn}
use Rattle.ex_store.specs.Families.{rooms_of, rows_of}
use Rattle.ex_store.proofs.DoableLaws.{doable_at}
use Rattle.ex_store.proofs.RoomStepLaws.{room_turn}
use Rattle.ex_store.proofs.room.change_families.Goals as goal

pub change_family-requires-clause-doable : goal.change_family-requires-clause-doable
change_family-requires-clause-doable c =
    let all = YieldsList-from_vec {s = c.into_iter-change-iterator.result} c.args.changes.items (search rules) (search rules) in
    let turn = YieldsList-turn all c.loop-change.yielded c.loop-change.change-iterator c.loop-change.yielded_by c.next.result
    c.next.new.self c.in-Some.change c.in-Some.is c.next.ensures.steps in
    rw c.loop-change.invariant.done
    (doable_at (rows_of c.args.families.now) c.args.changes.items c.loop-change.yielded c.in-Some.change c.requires.doable
    (YieldsList-so_far all c.loop-change.yielded c.loop-change.change-iterator c.loop-change.yielded_by) turn.0 turn.1)

pub change_family-requires-clause-room : goal.change_family-requires-clause-room
change_family-requires-clause-room c =
    let all = YieldsList-from_vec {s = c.into_iter-change-iterator.result} c.args.changes.items (search rules) (search rules) in
    let turn = YieldsList-turn all c.loop-change.yielded c.loop-change.change-iterator c.loop-change.yielded_by c.next.result
    c.next.new.self c.in-Some.change c.in-Some.is c.next.ensures.steps in
    λ key puts. rw (c.loop-change.invariant.done, c.loop-change.invariant.rooms)
    (room_turn (rooms_of c.args.families.now) (rows_of c.args.families.now) c.args.changes.items c.loop-change.yielded c.in-Some.change c.requires.room
    (YieldsList-so_far all c.loop-change.yielded c.loop-change.change-iterator c.loop-change.yielded_by) turn.0 turn.1 key puts)
