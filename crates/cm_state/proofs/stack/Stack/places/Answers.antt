use Rattle.cm_state.proofs.Stacks.{places_hold}
use Rattle.cm_state.proofs.stack.Stack.places.Goals as goal

pub returns : goal.returns
returns c = places_hold _ _ _ c.self.invariant.0 c.self.view_is c.deref.ensures.0
