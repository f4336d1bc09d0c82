use Rattle.std.proofs.Common.{◌≡◌, ◌<◌, List, [], None, false, get_or, length, map, set, subst, sym, ap, ◌∙◌}
use Rattle.std.proofs.lemmas.List.{get_or-map, length-set, map-set}
use Rattle.ex_generations.specs.declared.file.File.{File}
use Rattle.ex_generations.specs.Generations as generations
use Rattle.ex_generations.specs.Generations.{Kept}
use Rattle.ex_store.specs.declared.family.Family.{Family}
use Rattle.ex_store.specs.declared.row.Row.{Row}
use Rattle.ex_store.specs.Families.{row_under, rows_under}
use Rattle.ex_store.specs.Rows.{with_remark}
use Rattle.ex_store.proofs.family.FamilyBox.remark.Goals as goal

pub returns-clause-len : goal.returns-clause-len
returns-clause-len c =
    let old : Family = c.deref_mut.result.now in
    let is : old ≡ c.args.self.now = c.deref_mut.ensures.value ∙ c.self.view_is in
    let none : File = record { generation = 0; deleted = false; keep = 0; moment = 0; read = None; bytes = [] } in
    ap (λ (kept : Kept). length kept.files) (c.remark.ensures none)
    ∙ length-set old.gens.files c.args.i (generations.with_remark c.args.remark (get_or old.gens.files c.args.i none))
    ∙ ap (λ (it : Family). length it.gens.files) is

pub returns-clause-rows : goal.returns-clause-rows
returns-clause-rows c = λ (d : Row).
    let old : Family = c.deref_mut.result.now in
    let is : old ≡ c.args.self.now = c.deref_mut.ensures.value ∙ c.self.view_is in
    let own : List File = old.gens.files in
    let under = row_under old.key in
    let within : c.args.i < length own = subst (λ (it : Family). c.args.i < length it.gens.files) (sym is) c.requires.within in
    subst (λ (it : Family). map under c.remark.new.self.files ≡ set (rows_under it) c.args.i (with_remark c.args.remark (get_or (rows_under it) c.args.i d))) is
    (ap (λ (kept : Kept). map under kept.files) (c.remark.ensures d.file)
    ∙ map-set under own c.args.i (generations.with_remark c.args.remark (get_or own c.args.i d.file))
    ∙ ap (λ (row : Row). set (map under own) c.args.i (with_remark c.args.remark row)) (sym (get_or-map under own c.args.i d.file d within)))

pub returns-clause-room : goal.returns-clause-room
returns-clause-room c =
    let is : c.deref_mut.result.now ≡ c.args.self.now = c.deref_mut.ensures.value ∙ c.self.view_is in
    let none : File = record { generation = 0; deleted = false; keep = 0; moment = 0; read = None; bytes = [] } in
    ap (λ (kept : Kept). kept.room) (c.remark.ensures none) ∙ ap (λ (it : Family). it.gens.room) is
