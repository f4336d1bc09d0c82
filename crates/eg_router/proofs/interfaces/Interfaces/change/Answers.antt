use Rattle.std.proofs.Common.{◌≡◌, ◌<◌, List, length, set, arith, ap, ◌∙◌}
use Rattle.std.specs.List.{refill}
use Rattle.eg_router.specs.Interfaces.{with_change}
use Rattle.eg_router.specs.declared.interface.Interface.{Interface}
use Rattle.eg_router.specs.InterfaceLaws.{change_are, refilled}
use Rattle.eg_router.proofs.interfaces.Interfaces.change.Goals as goal

done : (c : goal.After-self-1) → refill (length c.self.inside.items.items) c.self.inside.items.items
    (set c.deref_mut.result.now c.args.at c.change.new.self) ≡ with_change c.args.at c.args.change c.self.inside.items.items
done c =
    let items : List Interface = c.self.inside.items.items in
    let within : c.args.at < length items = omega (arith, c.if-at-len.true, c.len.ensures.value) in
    refilled items c.deref_mut.result.now c.args.at c.args.change c.index-deref_mut-at.result c.change.new.self
    c.deref_mut.ensures.value within c.index-deref_mut-at.is c.change.ensures

pub invariant_of-self : goal.invariant_of-self
invariant_of-self c = rw (done c) (change_are c.args.at c.args.change c.self.inside.items.items c.self.invariant)

pub returns-then-at-len : goal.returns-then-at-len
returns-then-at-len c = done c ∙ ap (with_change c.args.at c.args.change) c.self.view_is
