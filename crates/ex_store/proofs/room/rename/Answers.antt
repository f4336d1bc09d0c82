use Rattle.std.proofs.Common.{◌≡◌, List, ap, arith, length}
use Rattle.ex_store.specs.declared.key.Key.{Key}
use Rattle.ex_store.specs.declared.row.Row.{Row}
use Rattle.ex_store.specs.Families.{room_at, rooms_of, rows_of}
use Rattle.ex_store.specs.Rows.{files_of}
use Rattle.ex_store.proofs.RoomStepLaws.{size_without}
use Rattle.ex_store.proofs.room.rename.Goals as goal

pub put-requires-clause-room : goal.put-requires-clause-room
put-requires-clause-room c =
    let size = ap (λ (it : List Row). length (files_of c.args.pair.target.key it)) c.remove.ensures.rows in
    let room = ap (room_at c.args.pair.target.key) c.remove.ensures.rooms in
    let key : c.with_name.result.key ≡ c.args.pair.target.key = ap (λ (it : Row). it.key) c.with_name.ensures in
    let own = ap (λ (it : Key). length (files_of it (rows_of c.remove.new.families))) key in
    let its = ap (λ (it : Key). room_at it (rooms_of c.remove.new.families)) key in
    omega (arith, size, room, own, its, size_without c.args.pair.source c.args.pair.target.key (rows_of c.args.families.now), c.requires.room)
