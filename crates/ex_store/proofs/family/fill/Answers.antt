use Rattle.std.proofs.Common.{sym, ◌∙◌}
use Rattle.ex_store.proofs.FamiliesLaws.{ascends_set, filled_absent, filled_there, rooms_set}
use Rattle.ex_store.proofs.family.fill.Goals as goal

pub returns-in-Some-clause-rows : goal.returns-in-Some-clause-rows
returns-in-Some-clause-rows c =
    filled_there c.args.target.now c.args.moment c.args.bytes c.args.families.now c.in-Some.at c.index-families-at.result c.fill.new.self c.requires.families
    (sym c.position.ensures.place ∙ c.in-Some.is) c.fill.ensures.rows

pub returns-in-Some-clause-ascend : goal.returns-in-Some-clause-ascend
returns-in-Some-clause-ascend c = ascends_set c.args.families.now c.in-Some.at c.fill.new.self c.index-families-at.result c.requires.families c.fill.ensures.key

pub returns-in-Some-clause-rooms : goal.returns-in-Some-clause-rooms
returns-in-Some-clause-rooms c = rooms_set c.args.families.now c.in-Some.at c.fill.new.self c.index-families-at.result c.fill.ensures.key c.fill.ensures.room

pub returns-in_default-clause-rows : goal.returns-in_default-clause-rows
returns-in_default-clause-rows c =
    sym (filled_absent c.args.target.now c.args.moment c.args.bytes c.args.families.now (sym c.position.ensures.place ∙ c.in_default.is))
