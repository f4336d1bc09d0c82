use Rattle.std.proofs.Common.{◌≡◌, false, ap, map, subst, sym, ◌∙◌}
use Rattle.ex_generations.specs.Generations.{IsAscending, Kept, has}
use Rattle.ex_store.specs.declared.family.Family.{Family}
use Rattle.ex_store.specs.Families.{row_under, rows_under}
use Rattle.ex_store.specs.Rows.{filled}
use Rattle.ex_store.proofs.FamilyLaws.{filled_none, filled_under}
use Rattle.ex_store.proofs.family.FamilyBox.fill.Goals as goal

pub returns-then-has-clause-rows : goal.returns-then-has-clause-rows
returns-then-has-clause-rows c =
    let old : Family = c.deref_mut.result.now in
    let is : old ≡ c.args.self.now = c.deref_mut.ensures.value ∙ c.self.view_is in
    let ordered : IsAscending 0 old.gens.files =
    subst (λ (it : Family). IsAscending 0 it.gens.files) (c.deref.ensures ∙ sym c.deref_mut.ensures.value) c.has.ensures.ordered in
    subst (λ (it : Family). map (row_under old.key) c.replace.new.self.files ≡ filled (record { key = it.key; generation = c.args.generation }) c.args.moment c.args.bytes (rows_under it)) is
    (ap (λ (kept : Kept). map (row_under old.key) kept.files) c.replace.ensures
    ∙ filled_under old.key c.args.generation c.args.moment 0 c.args.bytes old.gens.files ordered)

pub returns-else-has-clause-rows : goal.returns-else-has-clause-rows
returns-else-has-clause-rows c =
    let is : c.deref.result.now ≡ c.args.self.now = c.deref.ensures ∙ c.self.view_is in
    let none : has c.args.generation c.args.self.now.gens.files ≡ false =
    ap (λ (it : Family). has c.args.generation it.gens.files) (sym is) ∙ sym c.has.ensures.there ∙ c.if-has.false in
    filled_none c.args.self.now.key c.args.generation c.args.moment c.args.bytes c.args.self.now.gens.files none
