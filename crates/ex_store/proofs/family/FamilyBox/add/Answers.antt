use Rattle.std.proofs.Common.{◌≡◌, List, ap, arith, length, map, ◌∙◌}
use Rattle.std.proofs.lemmas.List.{length-map}
use Rattle.ex_generations.specs.declared.file.File.{File}
use Rattle.ex_generations.specs.Generations.{Kept, has}
use Rattle.ex_store.specs.declared.family.Family.{Family}
use Rattle.ex_store.specs.declared.key.Key.{Key}
use Rattle.ex_store.specs.declared.row.Row.{Row}
use Rattle.ex_store.specs.Families.{row_under, rows_under}
use Rattle.ex_store.specs.Rows.{added}
use Rattle.ex_store.proofs.FileNumbersLaws.{length_under}
use Rattle.ex_store.proofs.FamilyLaws.{added_under}
use Rattle.ex_store.proofs.TotalLaws.{length_added}
use Rattle.ex_store.proofs.family.FamilyBox.add.Goals as goal

pub returns-clause-rows : goal.returns-clause-rows
returns-clause-rows c =
    let next : Family = c.deref_mut-2.result.now in
    let old : c.deref_mut.result.now ≡ c.args.self.now = c.deref_mut.ensures.value ∙ c.self.view_is in
    let key : next.key ≡ c.args.self.now.key = ap (λ (it : Family). it.key) (c.deref_mut-2.ensures.value) ∙ ap (λ (it : Family). it.key) old in
    let files : next.gens.files ≡ c.args.self.now.gens.files =
    ap (λ (it : Family). it.gens.files) c.deref_mut-2.ensures.value ∙ c.reserve.ensures.files ∙ ap (λ (it : Family). it.gens.files) old in
    ap (λ (kept : Kept). map (row_under next.key) kept.files) c.add.ensures.added
    ∙ added_under c.args.file.keep next.key c.args.file next.gens.files c.add.ensures.ordered
    (ap (has c.args.file.generation) files ∙ c.requires.absent)
    ∙ ap (λ (it : Key). added c.args.file.keep (row_under it c.args.file) (map (row_under it) next.gens.files)) key
    ∙ ap (λ (it : List File). added c.args.file.keep (row_under c.args.self.now.key c.args.file) (map (row_under c.args.self.now.key) it)) files

pub returns-clause-few : goal.returns-clause-few
returns-clause-few c =
    let next : Family = c.deref_mut-2.result.now in
    let more = ap (λ (it : List Row). length it) (returns-clause-rows c)
    ∙ length_added c.args.file.keep (row_under c.args.self.now.key c.args.file) (rows_under c.args.self.now) in
    omega (arith, more, length_under c.args.self.now, length-map c.add.new.self.files (row_under next.key))
