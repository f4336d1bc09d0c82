use Rattle.std.proofs.Common.{◌≡◌, ◌≤◌, false, true, Some, refl, sym, ap, ◌∙◌, arith}
use Rattle.std.proofs.lemmas.Bool.{false≢true}
use Rattle.ex_generations.specs.declared.file.TheConstants.{GENERATION_LIMIT}
use Rattle.ex_generations.specs.Generations.{highest}
use Rattle.ex_generations.proofs.Extremes.{has-above, highest-within, highest_is}
use Rattle.ex_generations.proofs.search.next.Goals as goal

pub returns-in-Some-clause-next : goal.returns-in-Some-clause-next
returns-in-Some-clause-next c =
    rw (highest_is c.args.files.now c.in-Some.file.now c.requires (sym c.in-Some.ensures.value))

pub returns-in-Some-clause-full : goal.returns-in-Some-clause-full
returns-in-Some-clause-full c =
    let top : highest c.args.files.now ≡ Some c.in-Some.file.now.generation = highest_is c.args.files.now c.in-Some.file.now c.requires (sym c.in-Some.ensures.value) in
    (λ (e : false ≡ true). absurd (false≢true e), λ (e : highest c.args.files.now ≡ Some GENERATION_LIMIT). let same : c.in-Some.file.now.generation ≡ GENERATION_LIMIT = cc in absurd (omega arith))

pub returns-in-Some-clause-free : goal.returns-in-Some-clause-free
returns-in-Some-clause-free c =
    let top : highest c.args.files.now ≡ Some c.in-Some.file.now.generation = highest_is c.args.files.now c.in-Some.file.now c.requires (sym c.in-Some.ensures.value) in
    has-above c.args.files.now _ (rw top (omega arith))

pub returns-in-Some-2-clause-full : goal.returns-in-Some-2-clause-full
returns-in-Some-2-clause-full c =
    let top : highest c.args.files.now ≡ Some c.in-Some.file.now.generation = highest_is c.args.files.now c.in-Some.file.now c.requires (sym c.in-Some.ensures.value) in
    let within : c.in-Some.file.now.generation ≤ GENERATION_LIMIT = highest-within c.args.files.now c.in-Some.file.now c.requires (sym c.in-Some.ensures.value) in
    (λ _. top ∙ ap Some (omega arith), λ _. refl)
