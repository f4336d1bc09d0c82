use Rattle.std.proofs.Common.{[], arith, refl, subst, sym}
use Rattle.eg_router.specs.Interfaces.{AreInterfaces}
use Rattle.eg_router.specs.declared.router.Router.{Router}
use Rattle.eg_router.proofs.laws.a_new_router_keeps_the_screen.Goals as goal

pub returns : goal.returns
returns g c = λ before now result new run taken rest all.
    let none : AreInterfaces [] = record { few = omega arith; names = refl; ascend = refl } in
    let are = subst (λ (at : Router). AreInterfaces at.interfaces) (sym new) none in
    c.a_line_program_keeps_the_screen.ensures before now result are run taken rest all
