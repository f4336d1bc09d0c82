use Rattle.std.proofs.Common.{◌≡◌, false, find, ap, map, option_map, subst, sym, ◌∙◌}
use Rattle.ex_generations.specs.Generations.{IsAscending, Kept, has, is_generation}
use Rattle.ex_store.specs.declared.family.Family.{Family}
use Rattle.ex_store.specs.Families.{row_under, rows_under}
use Rattle.ex_store.specs.Rows.{without}
use Rattle.ex_store.proofs.FamilyLaws.{row_at_none, row_at_under, short_found, without_none, without_under}
use Rattle.ex_store.proofs.family.FamilyBox.remove.Goals as goal

pub returns-then-not-has-clause-file : goal.returns-then-not-has-clause-file
returns-then-not-has-clause-file c =
    let is : c.deref.result.now ≡ c.args.self.now = c.deref.ensures ∙ c.self.view_is in
    let none : has c.args.generation c.args.self.now.gens.files ≡ false =
    ap (λ (it : Family). has c.args.generation it.gens.files) (sym is) ∙ sym c.has.ensures.there ∙ c.if-not-has.true in
    row_at_none c.args.self.now.key c.args.generation c.args.self.now.gens.files none

pub returns-then-not-has-clause-rows : goal.returns-then-not-has-clause-rows
returns-then-not-has-clause-rows c =
    let is : c.deref.result.now ≡ c.args.self.now = c.deref.ensures ∙ c.self.view_is in
    let none : has c.args.generation c.args.self.now.gens.files ≡ false =
    ap (λ (it : Family). has c.args.generation it.gens.files) (sym is) ∙ sym c.has.ensures.there ∙ c.if-not-has.true in
    without_none c.args.self.now.key c.args.generation c.args.self.now.gens.files
    (subst (λ (it : Family). IsAscending 0 it.gens.files) is c.has.ensures.ordered) none

pub returns-clause-file : goal.returns-clause-file
returns-clause-file c =
    let old : Family = c.deref_mut.result.now in
    let is : old ≡ c.args.self.now = c.deref_mut.ensures.value ∙ c.self.view_is in
    ap (option_map (row_under c.args.self.now.key)) (sym c.remove.ensures.file)
    ∙ ap (λ (it : Family). option_map (row_under c.args.self.now.key) (find (is_generation c.args.generation) it.gens.files)) is
    ∙ row_at_under c.args.self.now.key c.args.generation c.args.self.now.gens.files

pub returns-clause-rows : goal.returns-clause-rows
returns-clause-rows c =
    let old : Family = c.deref_mut.result.now in
    let is : old ≡ c.args.self.now = c.deref_mut.ensures.value ∙ c.self.view_is in
    let ordered : IsAscending 0 old.gens.files =
    subst (λ (it : Family). IsAscending 0 it.gens.files) (c.deref.ensures ∙ sym c.deref_mut.ensures.value) c.has.ensures.ordered in
    subst (λ (it : Family). map (row_under old.key) c.remove.new.self.files ≡ without (record { key = it.key; generation = c.args.generation }) (rows_under it)) is
    (ap (λ (kept : Kept). map (row_under old.key) kept.files) c.remove.ensures.rest
    ∙ without_under old.key c.args.generation 0 old.gens.files ordered)

pub returns-clause-short : goal.returns-clause-short
returns-clause-short c =
    let old : Family = c.deref_mut.result.now in
    let ordered : IsAscending 0 old.gens.files =
    subst (λ (it : Family). IsAscending 0 it.gens.files) (c.deref.ensures ∙ sym c.deref_mut.ensures.value) c.has.ensures.ordered in
    short_found c.args.generation 0 old.gens.files c.remove.result ordered c.remove.ensures.file
