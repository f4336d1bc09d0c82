use Rattle.std.proofs.Common.{◌≡◌, ◌++◌, List, [], drop, map, refl, ap, sym, ◌∙◌, arith}
use Rattle.std.proofs.Math.ListN.{drop_of_length-le}
use Rattle.cm_lists.proofs.Ascents.{is_sorted}
use Rattle.ex_store.specs.declared.family.Family.{Family}
use Rattle.ex_store.specs.Families.{rows_of}
use Rattle.ex_store.specs.Rows.{by_key}
use Rattle.ex_store.proofs.BlankFamiliesLaws.{keys_end, keys_passed, keys_put, keys_start, rows_passed, rows_put}
use Rattle.ex_store.proofs.family.blanks.Goals as goal

pub loop-family-init : goal.loop-family-init
loop-family-init c = record {
  so_far = rw c.new-blanks.ensures.items refl;
  sorted = rw c.new-blanks.ensures.items (keys_start c.args.families.now c.requires);
}

pub loop-family-preserved-then-not-is_in_either : goal.loop-family-preserved-then-not-is_in_either
loop-family-preserved-then-not-is_in_either c =
    record {
      so_far = rows_passed c.args.from.now c.args.to.now c.args.families.now c.loop-family.family-index c.family-item.result (rows_of c.loop-family.blanks.items) _ c.loop-family-test.true
          c.family-item.is (sym c.is_in_either.ensures ∙ c.if-not-is_in_either.true) c.loop-family.invariant.so_far;
      sorted = keys_passed c.args.families.now (map (λ (family : Family). family.key) c.loop-family.blanks.items) c.loop-family.family-index c.family-item.result c.loop-family-test.true c.family-item.is c.loop-family.invariant.sorted;
    }

pub loop-family-preserved : goal.loop-family-preserved
loop-family-preserved c =
    record {
      so_far = rw c.in_ok-push.ensures.items (rows_put c.args.from.now c.args.to.now c.args.families.now c.loop-family.blanks.items c.loop-family.family-index c.family-item.result c.in_ok-blank.field-0 _
          c.loop-family-test.true c.family-item.is (sym c.is_in_either.ensures ∙ c.if-not-is_in_either.false) c.in_ok-blank.ensures.rows c.loop-family.invariant.so_far);
      sorted = rw c.in_ok-push.ensures.items (keys_put c.args.families.now c.loop-family.blanks.items c.loop-family.family-index c.family-item.result c.in_ok-blank.field-0
          c.loop-family-test.true c.family-item.is c.in_ok-blank.ensures.key c.loop-family.invariant.sorted);
    }

pub returns-clause-ascend : goal.returns-clause-ascend
returns-clause-ascend c =
    let none : drop c.loop-family.family-index c.args.families.now ≡ [] = drop_of_length-le c.args.families.now (omega arith) in
    keys_end c.loop-family.blanks.items
    (ap (λ (it : List Family). is_sorted by_key (map (λ (family : Family). family.key) c.loop-family.blanks.items ++ map (λ (family : Family). family.key) it)) (sym none) ∙ c.loop-family.invariant.sorted)
