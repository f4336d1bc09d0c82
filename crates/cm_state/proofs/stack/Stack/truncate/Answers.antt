use Rattle.std.proofs.Common.{arith, ◌∙◌, ap}
use Rattle.cm_blocks.specs.KeptParse.{decided_within}
use Rattle.cm_state.proofs.Stacks.{cut}
use Rattle.cm_state.proofs.stack.Stack.truncate.Goals as goal

pub invariant_of-self : goal.invariant_of-self
invariant_of-self c =
    let rest = cut c.args.size _ _ _ c.truncate.new.self.items c.self.invariant.0 c.deref.ensures.0
    c.first_decided_within.ensures.value c.truncate.ensures.items in
    let few = c.self.invariant.1 in
    (rest.all, omega (arith, rest.few, few))

pub returns : goal.returns
returns c =
    let rest = cut c.args.size _ _ _ c.truncate.new.self.items c.self.invariant.0 c.deref.ensures.0
    c.first_decided_within.ensures.value c.truncate.ensures.items in
    rest.fields ∙ ap (decided_within c.args.size) c.self.view_is
