use Rattle.std.proofs.Common.{ap, sym, ◌∙◌}
use Rattle.ex_store.specs.Appending.{bytes_at}
use Rattle.ex_store.specs.Families.{rows_under}
use Rattle.ex_store.specs.declared.family.Family.{Family}
use Rattle.ex_store.proofs.FamiliesLaws.{bytes_absent, bytes_there}
use Rattle.ex_store.proofs.family.bytes_at.Goals as goal

pub returns-in-Some : goal.returns-in-Some
returns-in-Some c =
    c.bytes_at.ensures
    ∙ ap (λ (it : Family). bytes_at (record { key = it.key; generation = c.args.full.now.generation }) (rows_under it)) c.index-families-at.is
    ∙ bytes_there c.args.full.now c.args.families.now c.in-Some.at c.index-families-at.result c.requires (sym c.position.ensures.place ∙ c.in-Some.is)

pub returns-in-None : goal.returns-in-None
returns-in-None c = sym (bytes_absent c.args.full.now c.args.families.now (sym c.position.ensures.place ∙ c.in-None.is))
