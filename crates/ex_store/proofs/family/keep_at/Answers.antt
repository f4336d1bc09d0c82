use Rattle.std.proofs.Common.{sym, ap, ◌∙◌}
use Rattle.ex_generations.specs.Generations.{Kept}
use Rattle.ex_generations.specs.Retention.{keep_for}
use Rattle.ex_store.proofs.FamiliesLaws.{files_absent, files_found}
use Rattle.ex_store.proofs.family.keep_at.Goals as goal

pub returns-in-Some : goal.returns-in-Some
returns-in-Some c =
    c.keep_for.ensures
    ∙ ap (λ (kept : Kept). keep_for c.args.retention kept.files) c.gens.ensures
    ∙ ap (keep_for c.args.retention)
    (sym (files_found c.args.key.now c.args.families.now c.in-Some.at c.index-families-at.result c.requires (sym c.position.ensures.place ∙ c.in-Some.is) c.index-families-at.is))

pub returns-in-None : goal.returns-in-None
returns-in-None c =
    ap (keep_for c.args.retention) (sym (files_absent c.args.key.now c.args.families.now (sym c.position.ensures.place ∙ c.in-None.is)))
