use Rattle.std.proofs.Common.{◌≡◌, ℕ, false, true, List, insert, arith, sym, ap, ◌∙◌}
use Rattle.std.proofs.lemmas.List.Sums.{prefix_len-le-length}
use Rattle.std.specs.Ordering.{is_lt}
use Rattle.cm_files.specs.Catalogue.{by_bytes}
use Rattle.eg_router.specs.Interfaces.{fresh, has, may_enter, place}
use Rattle.eg_router.specs.declared.interface.Interface.{Interface}
use Rattle.eg_router.specs.InterfaceLaws.{made_are, new_may}
use Rattle.eg_router.proofs.interfaces.Interfaces.make.Goals as goal

pub insert-requires : goal.insert-requires
insert-requires c =
    let items : List Interface = c.self.inside.items.items in
    let none : has c.args.name.now items ≡ false =
    ap (has c.args.name.now) (sym c.deref.ensures.0) ∙ sym c.has.ensures ∙ c.if-not-has.true in
    let may : may_enter c.args.name.now items ≡ true = ap (may_enter c.args.name.now) c.self.view_is ∙ c.requires.may_enter in
    let room = (new_may c.args.name.now items may none).1 in
    let at : c.args.at ≡ place c.args.name.now items = c.requires.place ∙ ap (place c.args.name.now) (sym c.self.view_is) in
    let within = prefix_len-le-length (λ (it : Interface). is_lt (by_bytes it.name c.args.name.now)) items in
    (omega arith, (omega (arith, at, within), room))

pub invariant_of-self : goal.invariant_of-self
invariant_of-self c =
    let items : List Interface = c.self.inside.items.items in
    let none : has c.args.name.now items ≡ false =
    ap (has c.args.name.now) (sym c.deref.ensures.0) ∙ sym c.has.ensures ∙ c.if-not-has.true in
    let may : may_enter c.args.name.now items ≡ true = ap (may_enter c.args.name.now) c.self.view_is ∙ c.requires.may_enter in
    let at : c.args.at ≡ place c.args.name.now items = c.requires.place ∙ ap (place c.args.name.now) (sym c.self.view_is) in
    let new : c.new-then-not-has.result ≡ fresh c.args.name.now =
    c.new-then-not-has.ensures ∙ ap (λ (name : List ℕ). fresh name) (c.new.ensures ∙ c.as_str.ensures.value) in
    let made : c.insert.new.self.items ≡ insert items (place c.args.name.now items) (fresh c.args.name.now) =
    c.insert.ensures.items ∙ ap (λ (at : ℕ). insert items at c.new-then-not-has.result) at
    ∙ ap (λ (it : Interface). insert items (place c.args.name.now items) it) new in
    rw made (made_are c.args.name.now items c.self.invariant may none)
