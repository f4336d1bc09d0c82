use Rattle.std.proofs.Common.{◌≡◌, ◌+◌, ◌-◌, ◌==◌, true, false, ap, sym, ◌∙◌, arith}
use Rattle.std.proofs.lemmas.Bool.Decides.{nat_tests}
use Rattle.cm_blocks.specs.FieldView.{FieldView}
use Rattle.ex_commands.proofs.LastFields.{last_found, last_other}
use Rattle.ex_commands.proofs.fields.last_at.Goals as goal

pub returns-then-node : goal.returns-then-node
returns-then-node c =
    let some = c.loop-number-test.true in
    let one : c.loop-number.number ≡ c.loop-number.number - 1 + 1 = grind (arith, nat_tests) in
    let first = c.field.ensures in
    let second = c.field-then-node.ensures in
    let same : c.field.result.now ≡ c.field-then-node.result.now = cc in
    let test : (c.field-then-node.result.now.node == c.args.node) ≡ true =
    ap (λ (it : FieldView). it.node == c.args.node) (sym same)
    ∙ (let of = c.node.ensures in let is = c.if-node.true in grind (arith, nat_tests)) in
    sym (last_found c.args.node c.args.session.now.fields (c.loop-number.number - 1) c.loop-number.number c.field-then-node.result.now
    one c.field-then-node.ensures test c.loop-number.invariant.none)

pub loop-number-preserved : goal.loop-number-preserved
loop-number-preserved c =
    let some = c.loop-number-test.true in
    let one : c.loop-number.number ≡ c.loop-number.number - 1 + 1 = grind (arith, nat_tests) in
    let most = c.loop-number.invariant.within in
    let test : (c.field.result.now.node == c.args.node) ≡ false =
    (let of = c.node.ensures in let other = c.if-node.false in grind (arith, nat_tests)) in
    record {
      none = last_other c.args.node c.args.session.now.fields (c.loop-number.number - 1) c.loop-number.number c.field.result.now one
          c.field.ensures test c.loop-number.invariant.none;
      within = omega arith;
    }
