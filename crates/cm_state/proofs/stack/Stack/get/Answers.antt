use Rattle.std.proofs.Common.{◌∙◌}
use Rattle.cm_lists.proofs.Elements.{slice_get_not_none}
use Rattle.cm_state.proofs.Stacks.{item_at}
use Rattle.cm_state.proofs.stack.Stack.get.Goals as goal

pub unreachable-requires : goal.unreachable-requires
unreachable-requires c =
    slice_get_not_none c.args.self.now c.args.number c.requires
    (item_at _ _ _ _ _ _ c.self.invariant.0 c.self.view_is c.deref.ensures.0 c.from.ensures c.requires
    c.index-deref-from.is ∙ c.in-None.is)

pub returns : goal.returns
returns c =
    item_at _ _ _ _ _ _ c.self.invariant.0 c.self.view_is c.deref.ensures.0 c.from.ensures c.requires
    c.index-deref-from.is ∙ c.in-Some.is
