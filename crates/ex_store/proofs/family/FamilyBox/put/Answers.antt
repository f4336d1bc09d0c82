use Rattle.std.proofs.Common.{◌≡◌, ap, map, subst, ◌∙◌}
use Rattle.ex_generations.specs.Generations.{Kept, has}
use Rattle.ex_store.specs.declared.family.Family.{Family}
use Rattle.ex_store.specs.Families.{row_under, rows_under}
use Rattle.ex_store.specs.Rows.{added}
use Rattle.ex_store.proofs.FamilyLaws.{added_under}
use Rattle.ex_store.proofs.family.FamilyBox.put.Goals as goal

pub returns-clause-rows : goal.returns-clause-rows
returns-clause-rows c =
    let old : Family = c.deref_mut.result.now in
    let is : old ≡ c.args.self.now = c.deref_mut.ensures.value ∙ c.self.view_is in
    subst (λ (it : Family). map (row_under old.key) c.add.new.self.files ≡ added c.args.file.keep (row_under it.key c.args.file) (rows_under it)) is
    (ap (λ (kept : Kept). map (row_under old.key) kept.files) c.add.ensures.added
    ∙ added_under c.args.file.keep old.key c.args.file old.gens.files c.add.ensures.ordered
    (ap (λ (it : Family). has c.args.file.generation it.gens.files) is ∙ c.requires.absent))
