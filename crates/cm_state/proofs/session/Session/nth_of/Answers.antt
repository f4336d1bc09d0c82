use Rattle.std.proofs.Common.{◌≡◌, ◌-◌, suc, sym, ◌∙◌, arith}
use Rattle.cm_state.proofs.Roles.{counted, found, passed}
use Rattle.cm_state.proofs.session.Session.nth_of.Goals as goal

pub loop-at-preserved-then-not-is_role : goal.loop-at-preserved-then-not-is_role
loop-at-preserved-then-not-is_role c =
    passed c.args.role c.args.self.now.fields c.loop-at.at c.loop-at.left c.field-field.result.now c.role.result _
    c.field-field.ensures c.role.ensures (sym c.is_role.ensures ∙ c.if-not-is_role.true) c.loop-at.invariant

pub returns-then-left-eq0 : goal.returns-then-left-eq0
returns-then-left-eq0 c =
    let none : c.loop-at.left ≡ 0 = omega (arith, c.if-left-eq0.true) in
    found c.args.role c.args.self.now.fields c.loop-at.at c.loop-at.left c.field-field.result.now c.role.result _
    c.field-field.ensures c.role.ensures (sym c.is_role.ensures ∙ c.if-not-is_role.false) none c.loop-at.invariant

pub loop-at-preserved : goal.loop-at-preserved
loop-at-preserved c =
    let more : c.loop-at.left ≡ suc (c.loop-at.left - 1) = omega (arith, c.if-left-eq0.false) in
    counted c.args.role c.args.self.now.fields c.loop-at.at c.loop-at.left (c.loop-at.left - 1)
    c.field-field.result.now c.role.result _
    c.field-field.ensures c.role.ensures (sym c.is_role.ensures ∙ c.if-not-is_role.false) more c.loop-at.invariant
