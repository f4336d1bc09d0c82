use Rattle.std.proofs.Common.{◌≡◌, Some, get_or, position, length, sym, ap, ◌∙◌, arith}
use Rattle.ex_generations.specs.Generations.{has}
use Rattle.ex_store.specs.declared.family.Family.{Family}
use Rattle.ex_store.specs.Families.{is_under, rows_of}
use Rattle.ex_store.specs.Rows.{files_of}
use Rattle.ex_store.proofs.FamiliesLaws.{added_found, ascends_set, files_found, room_found, room_none, rooms_set}
use Rattle.ex_store.proofs.family.put.Goals as goal

pub put-requires-clause-room : goal.put-requires-clause-room
put-requires-clause-room c =
    let found : position (is_under c.args.row.key) c.args.families.now ≡ Some c.in-Some.at = sym c.position.ensures.place ∙ c.in-Some.is in
    let files : files_of c.args.row.key (rows_of c.args.families.now) ≡ (get_or c.args.families.now c.in-Some.at c.index-families-at.result).gens.files =
    files_found c.args.row.key c.args.families.now c.in-Some.at c.index-families-at.result c.requires.families found c.index-families-at.is
    ∙ ap (λ (it : Family). it.gens.files) c.index-families-at.is in
    let size : length (files_of c.args.row.key (rows_of c.args.families.now)) ≡ length (get_or c.args.families.now c.in-Some.at c.index-families-at.result).gens.files =
    ap length files in
    omega (arith, c.requires.room, size, room_found c.args.row.key c.args.families.now c.in-Some.at c.index-families-at.result found)

pub put-requires-clause-absent : goal.put-requires-clause-absent
put-requires-clause-absent c =
    let found : position (is_under c.args.row.key) c.args.families.now ≡ Some c.in-Some.at = sym c.position.ensures.place ∙ c.in-Some.is in
    ap (λ (it : Family). has c.args.row.file.generation it.gens.files) (sym c.index-families-at.is)
    ∙ ap (has c.args.row.file.generation)
    (sym (files_found c.args.row.key c.args.families.now c.in-Some.at c.index-families-at.result c.requires.families found c.index-families-at.is))
    ∙ c.requires.absent

pub unreachable-requires : goal.unreachable-requires
unreachable-requires c =
    let none = room_none c.args.row.key c.args.families.now (sym c.position.ensures.place ∙ c.in-None.is) in
    omega (arith, c.requires.room, none)

pub returns-clause-rows : goal.returns-clause-rows
returns-clause-rows c =
    added_found c.args.row.file.keep c.args.row c.args.families.now c.in-Some.at c.index-families-at.result c.put.new.self c.requires.families
    (sym c.position.ensures.place ∙ c.in-Some.is) c.put.ensures.rows

pub returns-clause-ascend : goal.returns-clause-ascend
returns-clause-ascend c = ascends_set c.args.families.now c.in-Some.at c.put.new.self c.index-families-at.result c.requires.families c.put.ensures.key

pub returns-clause-rooms : goal.returns-clause-rooms
returns-clause-rooms c = rooms_set c.args.families.now c.in-Some.at c.put.new.self c.index-families-at.result c.put.ensures.key c.put.ensures.room
