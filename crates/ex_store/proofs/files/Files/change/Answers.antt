use Rattle.std.proofs.Common.{List, ap, arith, ◌∙◌}
use Rattle.std.proofs.lemmas.List.{with_items_is}
use Rattle.ex_store.specs.declared.row.Row.{Row}
use Rattle.ex_store.specs.Families.{counted, rooms_of, rows_of}
use Rattle.ex_store.specs.Ready.{rows_after_all}
use Rattle.ex_store.specs.State.{FilesWithRoom}
use Rattle.ex_store.proofs.FileNumbersLaws.{are_names, rooms_counted, rows_counted}
use Rattle.ex_store.proofs.files.Files.change.Goals as goal

pub count-requires-clause-few : goal.count-requires-clause-few
count-requires-clause-few c =
    rw (with_items_is c.self.inside.families c.change_families.new.families (omega (arith, c.change_families.auto.families, c.deref_mut.ensures.len)), c.change_families.ensures.rows, c.deref_mut.ensures.value, ap (λ (it : FilesWithRoom). it.rows) c.self.view_is)
    c.requires.few

pub invariant_of-self : goal.invariant_of-self
invariant_of-self c =
    are_names c.change_families.new.families c.count.new.families.items
    (c.count.ensures ∙ ap (counted 0) (with_items_is c.self.inside.families c.change_families.new.families (omega (arith, c.change_families.auto.families, c.deref_mut.ensures.len))))
    c.change_families.ensures.ascend
    (rw (c.change_families.ensures.rows, c.deref_mut.ensures.value, ap (λ (it : FilesWithRoom). it.rows) c.self.view_is) c.requires.few)

pub returns-clause-rows : goal.returns-clause-rows
returns-clause-rows c =
    ap rows_of (c.count.ensures ∙ ap (counted 0) (with_items_is c.self.inside.families c.change_families.new.families (omega (arith, c.change_families.auto.families, c.deref_mut.ensures.len))))
    ∙ rows_counted 0 c.change_families.new.families ∙ c.change_families.ensures.rows
    ∙ ap (λ (it : List Row). rows_after_all it c.args.changes.items)
    (ap rows_of c.deref_mut.ensures.value ∙ ap (λ (it : FilesWithRoom). it.rows) c.self.view_is)

pub returns-clause-rooms : goal.returns-clause-rooms
returns-clause-rooms c =
    ap rooms_of (c.count.ensures ∙ ap (counted 0) (with_items_is c.self.inside.families c.change_families.new.families (omega (arith, c.change_families.auto.families, c.deref_mut.ensures.len))))
    ∙ rooms_counted 0 c.change_families.new.families ∙ c.change_families.ensures.rooms
    ∙ ap rooms_of c.deref_mut.ensures.value ∙ ap (λ (it : FilesWithRoom). it.rooms) c.self.view_is
