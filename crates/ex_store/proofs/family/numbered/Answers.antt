use Rattle.std.proofs.Common.{sym, ap, ◌∙◌}
use Rattle.ex_generations.specs.Generations.{Kept}
use Rattle.ex_store.specs.Adding.{numbered}
use Rattle.ex_store.proofs.FamiliesLaws.{files_absent, files_found}
use Rattle.ex_store.proofs.family.numbered.Goals as goal

pub returns-in-Some : goal.returns-in-Some
returns-in-Some c =
    c.numbered_beside.ensures
    ∙ ap (λ (kept : Kept). numbered c.args.generation kept.files) c.gens.ensures
    ∙ ap (numbered c.args.generation)
    (sym (files_found c.args.key.now c.args.families.now c.in-Some.at c.index-families-at.result c.requires (sym c.position.ensures.place ∙ c.in-Some.is) c.index-families-at.is))

pub returns-in-None : goal.returns-in-None
returns-in-None c =
    c.first_number.ensures
    ∙ ap (numbered c.args.generation) (sym (files_absent c.args.key.now c.args.families.now (sym c.position.ensures.place ∙ c.in-None.is)))
