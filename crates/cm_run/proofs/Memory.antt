-- Acts for which memory may not run out.
use Rattle.std.proofs.Common.{◌≡◌, ◌≢◌, List, ◌∷◌, ◌++◌, ap, sym, subst, ◌∙◌}
use Rattle.std.specs.Prelude.{true, not, Result, Err}
use Rattle.std.specs.List.{list_all}
use Rattle.std.proofs.lemmas.List.Folds.{list_all-append}
use Rattle.cm_lists.proofs.Bools.{and_first, and_second, not_both}
use Rattle.cm_run.specs.declared.stop.Stop.{Stop}
use Rattle.cm_run.specs.declared.stop.Stop.TheVariants as stop
use Rattle.cm_run.specs.Semantics.{Effect, is_sparing}
use Rattle.cm_run.specs.Obey.{Obeys, Stage}

-- memory does not run out for them
pub acts_spare : {S : Type 0} (before now : Stage S) (effects : List (Effect S)) (result : Result Unit Stop) → Obeys before now effects result → is_sparing effects ≡ true → result ≢ Err stop.Memory
unfolding Obeys
acts_spare before now effects result obeys sparing is =
    let wanting = subst (λ it. Obeys before now effects it) is obeys in
    let place = wanting.at in
    let test = λ (effect : Effect _). not effect.may_allocate in
    let all : list_all test (place.done ++ place.effect ∷ place.rest) ≡ true = ap (list_all test) place.split ∙ sparing in
    let after : list_all test (place.effect ∷ place.rest) ≡ true
    = and_second (list_all test place.done) (list_all test (place.effect ∷ place.rest)) (sym (list_all-append test place.done (place.effect ∷ place.rest)) ∙ all) in
    not_both place.effect.may_allocate (and_first (test place.effect) (list_all test place.rest) after) wanting.may_allocate
