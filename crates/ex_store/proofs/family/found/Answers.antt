use Rattle.std.proofs.Common.{sym, ap, ◌∙◌}
use Rattle.ex_generations.specs.Generations.{Kept}
use Rattle.ex_store.specs.Appending.{found}
use Rattle.ex_store.proofs.FamiliesLaws.{files_absent, files_found}
use Rattle.ex_store.proofs.FamilyLaws.{found_none}
use Rattle.ex_store.proofs.family.found.Goals as goal

pub returns-in-Some : goal.returns-in-Some
returns-in-Some c =
    c.found_beside.ensures
    ∙ ap (λ (kept : Kept). found c.args.generation kept.files) c.gens.ensures
    ∙ ap (found c.args.generation)
    (sym (files_found c.args.key.now c.args.families.now c.in-Some.at c.index-families-at.result c.requires (sym c.position.ensures.place ∙ c.in-Some.is) c.index-families-at.is))

pub returns-in-None : goal.returns-in-None
returns-in-None c =
    sym (found_none c.args.generation)
    ∙ ap (found c.args.generation) (sym (files_absent c.args.key.now c.args.families.now (sym c.position.ensures.place ∙ c.in-None.is)))
