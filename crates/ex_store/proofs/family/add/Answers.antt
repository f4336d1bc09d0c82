use Rattle.std.proofs.Common.{List, sym, ap, ◌∙◌}
use Rattle.ex_generations.specs.Generations.{has}
use Rattle.ex_store.specs.declared.family.Family.{Family}
use Rattle.ex_store.specs.declared.row.Row.{Row}
use Rattle.ex_store.specs.Families.{row_under, rows_under}
use Rattle.ex_store.specs.Rows.{added, files_of}
use Rattle.ex_store.proofs.FamiliesLaws.{added_there, ascends_set, files_there}
use Rattle.ex_store.proofs.family.add.Goals as goal

pub add-requires-clause-absent : goal.add-requires-clause-absent
add-requires-clause-absent c =
    ap (λ (it : Family). has c.args.row.file.generation it.gens.files) c.index_mut.ensures.value
    ∙ ap (has c.args.row.file.generation)
    (sym (files_there c.args.row.key c.enter.new.families.items c.in_ok-at.at c.index_mut.result.now c.enter.ensures.ascend c.in_ok-at.ensures.within c.in_ok-at.ensures.there))
    ∙ ap (λ (it : List Row). has c.args.row.file.generation (files_of c.args.row.key it)) c.enter.ensures.rows
    ∙ c.requires.absent

pub returns-clause-rows : goal.returns-clause-rows
returns-clause-rows c =
    added_there c.args.row.file.keep c.args.row c.enter.new.families.items c.in_ok-at.at c.index_mut.result.now c.add.new.self c.enter.ensures.ascend
    c.in_ok-at.ensures.within c.in_ok-at.ensures.there
    (c.in_ok-add.ensures.rows
    ∙ ap (λ (it : Family). added c.args.row.file.keep (row_under it.key c.args.row.file) (rows_under it)) c.index_mut.ensures.value)
    ∙ ap (added c.args.row.file.keep c.args.row) c.enter.ensures.rows

pub returns-clause-ascend : goal.returns-clause-ascend
returns-clause-ascend c =
    ascends_set c.enter.new.families.items c.in_ok-at.at c.add.new.self c.index_mut.result.now c.enter.ensures.ascend
    (c.add.ensures.key ∙ ap (λ (it : Family). it.key) c.index_mut.ensures.value)

pub returns-in_err-add-clause-ascend : goal.returns-in_err-add-clause-ascend
returns-in_err-add-clause-ascend c =
    ascends_set c.enter.new.families.items c.in_ok-at.at c.add.new.self c.index_mut.result.now c.enter.ensures.ascend
    (c.add.ensures.key ∙ ap (λ (it : Family). it.key) c.index_mut.ensures.value)
