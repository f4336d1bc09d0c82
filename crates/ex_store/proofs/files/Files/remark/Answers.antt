use Rattle.std.proofs.Common.{◌≡◌, ◌<◌, List, ap, arith, get_or, length, sym, subst}
use Rattle.std.proofs.lemmas.List.{with_items_is}
use Rattle.ex_store.specs.declared.row.Row.{Row}
use Rattle.ex_store.specs.Families.{AreFamilies, rows_of}
use Rattle.ex_store.specs.Rows.{with_remark}
use Rattle.ex_store.specs.State.{FilesWithRoom}
use Rattle.ex_store.proofs.FileNumbersLaws.{few_set}
use Rattle.ex_store.proofs.files.Files.remark.Goals as goal

pub invariant_of-self : goal.invariant_of-self
invariant_of-self c =
    let value = c.deref_mut.ensures.value in
    let rows : rows_of c.deref_mut.result.now ≡ rows_of c.self.inside.families.items = ap rows_of value in
    let within : c.args.i < length (rows_of c.deref_mut.result.now) = rw (value, ap (λ (it : FilesWithRoom). it.rows) c.self.view_is) c.requires in
    let size = few_set (rows_of c.deref_mut.result.now) (rows_of c.remark_file.new.families) c.args.i
    (λ d. with_remark c.args.remark (get_or (rows_of c.deref_mut.result.now) c.args.i d)) within c.remark_file.ensures.rows in
    let before = ap (λ (it : List Row). length it) rows in
    subst AreFamilies (sym (with_items_is c.self.inside.families c.remark_file.new.families (omega (arith, c.remark_file.auto.families, c.deref_mut.ensures.len))))
    (record { ascend = c.remark_file.ensures.ascend; counted = c.remark_file.ensures.counted; few = omega (arith, size, before, c.self.invariant.few) })
