use Rattle.std.proofs.Common.{sym, ◌∙◌}
use Rattle.ex_store.proofs.FamiliesLaws.{ascends_set, rooms_set, row_at_absent, row_at_there, without_absent, without_there}
use Rattle.ex_store.proofs.family.remove.Goals as goal

pub returns-in-Some-clause-file : goal.returns-in-Some-clause-file
returns-in-Some-clause-file c =
    row_at_there c.args.full.now c.args.families.now c.in-Some.at c.index-families-at.result c.remove.result c.requires (sym c.position.ensures.place ∙ c.in-Some.is) c.remove.ensures.file

pub returns-in-Some-clause-rows : goal.returns-in-Some-clause-rows
returns-in-Some-clause-rows c =
    without_there c.args.full.now c.args.families.now c.in-Some.at c.index-families-at.result c.remove.new.self c.requires (sym c.position.ensures.place ∙ c.in-Some.is) c.remove.ensures.rows

pub returns-in-Some-clause-ascend : goal.returns-in-Some-clause-ascend
returns-in-Some-clause-ascend c =
    ascends_set c.args.families.now c.in-Some.at c.remove.new.self c.index-families-at.result c.requires c.remove.ensures.key

pub returns-in-None-clause-file : goal.returns-in-None-clause-file
returns-in-None-clause-file c = sym (row_at_absent c.args.full.now c.args.families.now (sym c.position.ensures.place ∙ c.in-None.is))

pub returns-in-None-clause-rows : goal.returns-in-None-clause-rows
returns-in-None-clause-rows c = sym (without_absent c.args.full.now c.args.families.now (sym c.position.ensures.place ∙ c.in-None.is))

pub returns-in-Some-clause-rooms : goal.returns-in-Some-clause-rooms
returns-in-Some-clause-rooms c = rooms_set c.args.families.now c.in-Some.at c.remove.new.self c.index-families-at.result c.remove.ensures.key c.remove.ensures.room
