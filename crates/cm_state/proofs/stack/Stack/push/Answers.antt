use Rattle.cm_state.proofs.Stacks.{pushed}
use Rattle.cm_state.proofs.stack.Stack.push.Goals as goal

pub invariant_of-self : goal.invariant_of-self
invariant_of-self c =
    let one = pushed _ c.push.new.self.items c.args.self.now c.args.field c.self.invariant.0 c.self.view_is c.requires
    c.push.ensures.items in
    (one.all, one.few)

pub returns : goal.returns
returns c =
    let one = pushed _ c.push.new.self.items c.args.self.now c.args.field c.self.invariant.0 c.self.view_is c.requires
    c.push.ensures.items in
    one.more
