use Rattle.std.proofs.Common.{option_map, sym, ap, ◌∙◌}
use Rattle.std.specs.Option.{option_copied}
use Rattle.ex_store.specs.declared.family.Family.{Family}
use Rattle.ex_store.specs.Families.{row_under, rows_under}
use Rattle.ex_store.specs.Rows.{row_at}
use Rattle.ex_store.proofs.FamiliesLaws.{row_at_absent, row_at_there}
use Rattle.ex_store.proofs.family.find.Goals as goal

pub returns-in-Some-clause-file : goal.returns-in-Some-clause-file
returns-in-Some-clause-file c =
    row_at_there c.args.full.now c.args.families.now c.in-Some.at c.index-families-at.result (option_copied c.find.result) c.requires (sym c.position.ensures.place ∙ c.in-Some.is)
    (ap (λ (it : Family). option_map (row_under it.key) (option_copied c.find.result)) (sym c.index-families-at.is)
    ∙ c.find.ensures
    ∙ ap (λ (it : Family). row_at (record { key = it.key; generation = c.args.full.now.generation }) (rows_under it)) c.index-families-at.is)

pub returns-in-None-clause-file : goal.returns-in-None-clause-file
returns-in-None-clause-file c = sym (row_at_absent c.args.full.now c.args.families.now (sym c.position.ensures.place ∙ c.in-None.is))
