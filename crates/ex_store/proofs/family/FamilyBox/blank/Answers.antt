use Rattle.std.proofs.Common.{◌≡◌, map, ap, ◌∙◌}
use Rattle.ex_generations.specs.Generations.{blank}
use Rattle.ex_store.specs.declared.family.Family.{Family}
use Rattle.ex_store.specs.declared.key.Key.{Key}
use Rattle.ex_store.specs.Families.{row_under}
use Rattle.ex_store.proofs.BlankFamiliesLaws.{blank_under}
use Rattle.ex_store.proofs.family.FamilyBox.blank.Goals as goal

pub returns-clause-rows : goal.returns-clause-rows
returns-clause-rows c =
    let files : c.in_ok-blank.field-0.files ≡ map blank c.args.self.now.gens.files =
    c.in_ok-blank.ensures ∙ ap (λ (it : Family). map blank it.gens.files) (c.deref-2.ensures ∙ c.self.view_is) in
    let key : c.copy.result ≡ c.args.self.now.key = c.copy.ensures ∙ ap (λ (it : Family). it.key) (c.deref.ensures ∙ c.self.view_is) in
    let family : Family = record { key = c.copy.result; gens = c.in_ok-blank.field-0; end = 0; demand = 0 } in
    ap (λ (it : Family). map (row_under it.key) it.gens.files) c.in_ok-new.ensures.ok
    ∙ ap (λ (it : Key). map (row_under it) c.in_ok-blank.field-0.files) key
    ∙ ap (map (row_under c.args.self.now.key)) files
    ∙ blank_under c.args.self.now.key c.args.self.now.gens.files
