use Rattle.std.proofs.Common.{◌≡◌, Some, None, Ok, Err, ap, not, sym, true, false, ◌∙◌}
use Rattle.cm_fields.specs.declared.code.Code.TheVariants.{NoFile}
use Rattle.ex_generations.specs.Generations.{has, unmarked}
use Rattle.ex_store.proofs.FamilyLaws.{found_live, found_nowhere, found_there}
use Rattle.ex_store.proofs.family.found_beside.Goals as goal

pub returns-in-Some : goal.returns-in-Some
returns-in-Some c =
    let live : has c.in-Number.number (unmarked c.args.gens.now.files) ≡ false =
    found_live c.in-Number.number 0 c.args.gens.now.files c.in-Some.file.now c.find.ensures.ordered (sym c.in-Some.ensures.found) ∙ ap not c.if-file.true in
    let there = found_there c.in-Number.number c.args.gens.now.files c.in-Some.file.now (sym c.in-Some.ensures.found) in
    rw (c.in-Number.is, live, there) (λ i. Err NoFile)

pub returns-in-Some-2 : goal.returns-in-Some-2
returns-in-Some-2 c =
    let live : has c.in-Number.number (unmarked c.args.gens.now.files) ≡ true =
    found_live c.in-Number.number 0 c.args.gens.now.files c.in-Some.file.now c.find.ensures.ordered (sym c.in-Some.ensures.found) ∙ ap not c.if-file.false in
    rw (c.in-Number.is, live) (λ i. Ok (Some c.in-Number.number))

pub returns-in-None : goal.returns-in-None
returns-in-None c =
    let nowhere = found_nowhere c.in-Number.number c.args.gens.now.files (sym c.in-None.ensures.found) in
    rw (c.in-Number.is, nowhere.1, nowhere.0) (λ i. Ok None)
