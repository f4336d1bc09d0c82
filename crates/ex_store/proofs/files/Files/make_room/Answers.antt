use Rattle.std.proofs.Common.{◌≡◌, List, length, ap, arith, ◌∙◌}
use Rattle.std.proofs.lemmas.List.{length-map}
use Rattle.ex_store.specs.declared.family.Family.{Family}
use Rattle.ex_store.specs.Families.{rooms_of, rows_of}
use Rattle.ex_store.specs.State.{FilesWithRoom, FamilyRoom}
use Rattle.ex_store.proofs.FileNumbersLaws.{are_names, rooms_counted, rows_counted}
use Rattle.ex_store.proofs.files.Files.make_room.Goals as goal

pub invariant_of-self : goal.invariant_of-self
invariant_of-self c = are_names c.make_room-made.new.families.items c.count.new.families.items c.count.ensures c.make_room-made.ensures.ascend
    (rw c.make_room-made.ensures.rows c.self.invariant.few)

pub returns-clause-rows : goal.returns-clause-rows
returns-clause-rows c =
    ap rows_of c.count.ensures ∙ rows_counted 0 c.make_room-made.new.families.items ∙ c.make_room-made.ensures.rows
    ∙ ap (λ (it : FilesWithRoom). it.rows) c.self.view_is

pub returns-in_err-made-clause-rows : goal.returns-in_err-made-clause-rows
returns-in_err-made-clause-rows c =
    ap rows_of c.count.ensures ∙ rows_counted 0 c.make_room-made.new.families.items ∙ c.make_room-made.ensures.rows
    ∙ ap (λ (it : FilesWithRoom). it.rows) c.self.view_is

pub returns-clause-room : goal.returns-clause-room
returns-clause-room c =
    let rooms : rooms_of c.count.new.families.items ≡ rooms_of c.make_room-made.new.families.items =
    ap rooms_of c.count.ensures ∙ rooms_counted 0 c.make_room-made.new.families.items in
    let rows : rows_of c.self.inside.families.items ≡ c.args.self.now.rows = ap (λ (it : FilesWithRoom). it.rows) c.self.view_is in
    λ key some. rw (rooms, ← rows) (c.in_ok-made.ensures.room key some)

pub invariant_of-self-2 : goal.invariant_of-self-2
invariant_of-self-2 c = are_names c.make_room-made.new.families.items c.count.new.families.items c.count.ensures c.make_room-made.ensures.ascend
    (rw c.make_room-made.ensures.rows c.self.invariant.few)

pub returns-clause-lean : goal.returns-clause-lean
returns-clause-lean c =
    let families = c.make_room-made.new.families.items in
    let rooms : length (rooms_of c.count.new.families.items) ≡ length (rooms_of families) =
    ap (λ (it : List FamilyRoom). length it) (ap rooms_of c.count.ensures ∙ rooms_counted 0 families) in
    let rows : length (rows_of c.self.inside.families.items) ≡ length c.args.self.now.rows = ap (λ (it : FilesWithRoom). length it.rows) c.self.view_is in
    omega (arith, rooms, rows, length-map {B = FamilyRoom} families (λ (family : Family). record { key = family.key; room = family.gens.room }), c.in_ok-made.ensures.lean)
