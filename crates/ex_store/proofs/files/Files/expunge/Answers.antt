use Rattle.std.proofs.Common.{List, ap, arith, ◌∙◌}
use Rattle.std.proofs.lemmas.List.{with_items_is}
use Rattle.ex_store.specs.declared.family.Family.{Family}
use Rattle.ex_store.specs.Families.{counted, rooms_of, rows_of}
use Rattle.ex_store.specs.Rows.{expunged}
use Rattle.ex_store.specs.State.{FilesWithRoom}
use Rattle.ex_store.proofs.FileNumbersLaws.{are_names, rooms_counted, rows_counted}
use Rattle.ex_store.proofs.SweepLaws.{few_left}
use Rattle.ex_store.proofs.files.Files.expunge.Goals as goal

pub count-requires-clause-few : goal.count-requires-clause-few
count-requires-clause-few c =
    few_left c.args.directory.now (rows_of c.self.inside.families.items) _
    (ap rows_of (with_items_is c.self.inside.families c.drop_marked-pages.new.families (omega (arith, c.drop_marked-pages.auto.families, c.deref_mut.ensures.len)))
    ∙ c.drop_marked-pages.ensures.rows
    ∙ ap (λ (it : List Family). expunged c.args.directory.now (rows_of it)) c.deref_mut.ensures.value)
    c.self.invariant.few

pub invariant_of-self : goal.invariant_of-self
invariant_of-self c =
    let whole = with_items_is c.self.inside.families c.drop_marked-pages.new.families (omega (arith, c.drop_marked-pages.auto.families, c.deref_mut.ensures.len)) in
    are_names c.drop_marked-pages.new.families c.count.new.families.items (c.count.ensures ∙ ap (counted 0) whole) c.drop_marked-pages.ensures.ascend
    (few_left c.args.directory.now (rows_of c.self.inside.families.items) (rows_of c.drop_marked-pages.new.families)
    (c.drop_marked-pages.ensures.rows
    ∙ ap (λ (it : List Family). expunged c.args.directory.now (rows_of it)) c.deref_mut.ensures.value)
    c.self.invariant.few)

pub returns-clause-rows : goal.returns-clause-rows
returns-clause-rows c =
    let whole = with_items_is c.self.inside.families c.drop_marked-pages.new.families (omega (arith, c.drop_marked-pages.auto.families, c.deref_mut.ensures.len)) in
    ap rows_of (c.count.ensures ∙ ap (counted 0) whole) ∙ rows_counted 0 c.drop_marked-pages.new.families
    ∙ c.drop_marked-pages.ensures.rows
    ∙ ap (λ (it : List Family). expunged c.args.directory.now (rows_of it)) c.deref_mut.ensures.value
    ∙ ap (λ (it : FilesWithRoom). expunged c.args.directory.now it.rows) c.self.view_is

pub returns-clause-rooms : goal.returns-clause-rooms
returns-clause-rooms c =
    let whole = with_items_is c.self.inside.families c.drop_marked-pages.new.families (omega (arith, c.drop_marked-pages.auto.families, c.deref_mut.ensures.len)) in
    ap rooms_of (c.count.ensures ∙ ap (counted 0) whole) ∙ rooms_counted 0 c.drop_marked-pages.new.families
    ∙ c.drop_marked-pages.ensures.rooms
    ∙ ap rooms_of c.deref_mut.ensures.value
    ∙ ap (λ (it : FilesWithRoom). it.rooms) c.self.view_is
