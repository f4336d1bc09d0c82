use Rattle.std.proofs.Common.{◌≡◌, ℕ, false, true, List, arith, sym, ap, ◌∙◌}
use Rattle.std.specs.List.{remove}
use Rattle.eg_router.specs.Interfaces.{has, place, without_name}
use Rattle.eg_router.specs.declared.interface.Interface.{Interface}
use Rattle.eg_router.specs.InterfaceLaws.{absent_is, removed_is, there_within, without_are}
use Rattle.eg_router.proofs.interfaces.Interfaces.remove.Goals as goal

pub remove-requires : goal.remove-requires
remove-requires c =
    let items : List Interface = c.self.inside.items.items in
    let some : has c.args.name.now items ≡ true =
    ap (has c.args.name.now) (sym c.deref.ensures.0) ∙ sym c.has.ensures ∙ c.if-has.true in
    let at : c.place.result ≡ place c.args.name.now items =
    c.place.ensures.value ∙ ap (place c.args.name.now) c.deref-then-has.ensures.0 in
    let within = there_within c.args.name.now items some in
    (omega arith, omega (arith, at, within))

gone : (c : goal.After-remove) → c.remove.new.self.items ≡ without_name c.args.name.now c.self.inside.items.items
gone c =
    let items : List Interface = c.self.inside.items.items in
    let some : has c.args.name.now items ≡ true =
    ap (has c.args.name.now) (sym c.deref.ensures.0) ∙ sym c.has.ensures ∙ c.if-has.true in
    let at : c.place.result ≡ place c.args.name.now items =
    c.place.ensures.value ∙ ap (place c.args.name.now) c.deref-then-has.ensures.0 in
    c.remove.ensures.items ∙ ap (λ (at : ℕ). remove items at) at
    ∙ removed_is c.args.name.now items c.self.invariant some

pub invariant_of-self : goal.invariant_of-self
invariant_of-self c = rw (gone c) (without_are c.args.name.now c.self.inside.items.items c.self.invariant)

pub returns-then-has : goal.returns-then-has
returns-then-has c = gone c ∙ ap (without_name c.args.name.now) c.self.view_is

pub returns-else-has : goal.returns-else-has
returns-else-has c =
    let none : has c.args.name.now c.args.self.now ≡ false =
    ap (has c.args.name.now) (sym (c.deref.ensures.0 ∙ c.self.view_is)) ∙ sym c.has.ensures ∙ c.if-has.false in
    absent_is c.args.name.now c.args.self.now none
