use Rattle.std.proofs.Common.{ℕ, ◌≡◌, ◌<◌, ◌≤◌, ◌+◌, List, [], get_or, length, set, sym, ap, refl, subst, ◌∙◌, arith, Result, Ok, Err}
use Rattle.std.specs.Result.{OnErr}
use Rattle.std.proofs.lemmas.List.{length-set}
use Rattle.ex_generations.specs.Generations.{has}
use Rattle.ex_store.specs.declared.family.Family.{Family}
use Rattle.ex_store.specs.declared.limits.TheConstants.{ROW_LIMIT}
use Rattle.ex_store.specs.declared.row.Row.{Row}
use Rattle.ex_store.specs.Families.{AreFamilies, row_under, rows_of, rows_under}
use Rattle.ex_store.specs.Rows.{added, files_of, inserted}
use Rattle.ex_store.proofs.FamiliesLaws.{added_there, ascends_set, files_there}
use Rattle.ex_store.proofs.FileNumbersLaws.{are_names, front_kept, one_more, rows_counted, rows_unchanged}
use Rattle.ex_store.proofs.LastRowLaws.{GoesLast, goes_last}
use Rattle.ex_store.proofs.file_numbers.push.Goals as goal
use Rattle.ex_store.proofs.file_numbers.push.Goals.{After-count}

pub returns-in_err-at-clause-families : goal.returns-in_err-at-clause-families
returns-in_err-at-clause-families c = subst AreFamilies (sym c.in_err-at.ensures.refused) c.requires.families

pub insert-inserted-requires-clause-absent : goal.insert-inserted-requires-clause-absent
insert-inserted-requires-clause-absent c =
    let last : GoesLast c.args.row (rows_of c.args.families.now.items) = goes_last c.args.row (rows_of c.args.families.now.items) [] _ c.requires.last refl in
    ap (λ (it : Family). has c.args.row.file.generation it.gens.files) c.index_mut.ensures.value
    ∙ ap (has c.args.row.file.generation)
    (sym (files_there c.args.row.key c.enter.new.families.items c.in_ok-at.at c.index_mut.result.now c.enter.ensures.ascend c.in_ok-at.ensures.within c.in_ok-at.ensures.there))
    ∙ ap (λ (it : List Row). has c.args.row.file.generation (files_of c.args.row.key it)) c.enter.ensures.rows
    ∙ last.absent

on_err : {A E P : Type 0} (result : Result A E) → P → OnErr result P
on_err (Ok value) is = tt
on_err (Err error) is = is

-- the families before they are counted
few_then : (families : List Family) (at size : ℕ) (item new : Family) → at < length families → item ≡ get_or families at item
    → length new.gens.files ≤ length item.gens.files + 1 → length (rows_of families) ≡ size → size < ROW_LIMIT
    → length (rows_of (set families at new)) ≤ ROW_LIMIT
few_then families at size item new within is few same room =
    omega (arith, one_more families at item new within (subst (λ (it : Family). length new.gens.files ≤ length it.gens.files + 1) is few), same, room)

pub count-requires : goal.count-requires
count-requires c =
    let families = c.enter.new.families.items in
    let at = c.in_ok-at.at in
    record {
      within = omega (arith, length-set families at c.insert-inserted.new.self, c.in_ok-at.ensures.within);
      counted = front_kept families c.args.families.now.items at c.insert-inserted.new.self c.in_ok-at.ensures.front c.requires.families.counted;
      few = few_then families at (length (rows_of c.args.families.now.items)) c.index_mut.result.now c.insert-inserted.new.self c.in_ok-at.ensures.within c.index_mut.ensures.value
          c.insert-inserted.ensures.few (ap (λ (it : List Row). length it) c.enter.ensures.rows) c.requires.few;
    }

-- the families, counted
counted_families : (c : After-count) → AreFamilies c.count.new.families.items
counted_families c =
    let families = c.enter.new.families.items in
    let at = c.in_ok-at.at in
    are_names (set families at c.insert-inserted.new.self) c.count.new.families.items c.count.ensures
    (ascends_set families at c.insert-inserted.new.self c.index_mut.result.now c.enter.ensures.ascend (c.insert-inserted.ensures.key ∙ ap (λ (it : Family). it.key) c.index_mut.ensures.value))
    (few_then families at (length (rows_of c.args.families.now.items)) c.index_mut.result.now c.insert-inserted.new.self c.in_ok-at.ensures.within c.index_mut.ensures.value
    c.insert-inserted.ensures.few (ap (λ (it : List Row). length it) c.enter.ensures.rows) c.requires.few)

pub returns-in_err-inserted-clause-families : goal.returns-in_err-inserted-clause-families
returns-in_err-inserted-clause-families c = counted_families (goal.at.returns-in_err-inserted-clause-families c).After-count

pub returns-clause-families : goal.returns-clause-families
returns-clause-families c = counted_families (goal.at.returns-clause-families c).After-count

pub returns-in_err-inserted-clause-refused : goal.returns-in_err-inserted-clause-refused
returns-in_err-inserted-clause-refused c =
    let families = c.enter.new.families.items in
    let at = c.in_ok-at.at in
    on_err c.from_residual-in_err-inserted.result
    (ap rows_of c.count.ensures ∙ rows_counted 0 (set families at c.insert-inserted.new.self)
    ∙ rows_unchanged families at c.index_mut.result.now c.insert-inserted.new.self c.in_ok-at.ensures.within
    (c.in_err-inserted.ensures.refused ∙ ap rows_under c.index_mut.ensures.value)
    ∙ c.enter.ensures.rows)

pub returns-clause-rows : goal.returns-clause-rows
returns-clause-rows c =
    let families = c.enter.new.families.items in
    let at = c.in_ok-at.at in
    let last : GoesLast c.args.row (rows_of c.args.families.now.items) = goes_last c.args.row (rows_of c.args.families.now.items) [] _ c.requires.last refl in
    ap rows_of c.count.ensures ∙ rows_counted 0 (set families at c.insert-inserted.new.self)
    ∙ added_there 0 c.args.row families at c.index_mut.result.now c.insert-inserted.new.self c.enter.ensures.ascend c.in_ok-at.ensures.within c.in_ok-at.ensures.there
    (c.in_ok-inserted.ensures.rows ∙ ap (λ (it : Family). inserted (row_under it.key c.args.row.file) (rows_under it)) c.index_mut.ensures.value)
    ∙ ap (added 0 c.args.row) c.enter.ensures.rows
    ∙ last.added_is
