use Rattle.std.proofs.Common.{◌≡◌, true, false, refl, sym, ◌∙◌}
use Rattle.std.proofs.lemmas.Bool.{both_ways, false≢true}
use Rattle.ex_generations.specs.Generations.{has, with_remark}
use Rattle.ex_generations.proofs.Ascents.{with_remark-bytes, with_remark-generation}
use Rattle.ex_generations.proofs.Places.{IsAscending-set, StandsAt-from_position, absent-from_position, changed-absent, set_is}
use Rattle.ex_generations.proofs.change.remark.Goals as goal

pub returns-in-Some-clause-none : goal.returns-in-Some-clause-none
returns-in-Some-clause-none c =
    let there : has c.args.generation c.args.files.now ≡ true = (StandsAt-from_position c.args.generation c.args.files.now c.in-Some.at (sym c.position.ensures.place ∙ c.in-Some.is)).there in
    (λ (e : false ≡ true). absurd (false≢true e), λ (e : has c.args.generation c.args.files.now ≡ false). absurd (both_ways _ e there))

pub returns-in-Some-clause-changed : goal.returns-in-Some-clause-changed
returns-in-Some-clause-changed c =
    rw c.apply.ensures (set_is c.args.generation (with_remark c.args.remark) c.args.files.now c.in-Some.at c.index-files-at.result c.requires (sym c.position.ensures.place ∙ c.in-Some.is))

pub returns-in-Some-clause-ascending : goal.returns-in-Some-clause-ascending
returns-in-Some-clause-ascending c =
    rw c.apply.ensures (IsAscending-set c.args.generation (with_remark c.args.remark) c.args.files.now c.in-Some.at c.index-files-at.result (with_remark-generation c.args.remark) (λ other short. rw (with_remark-bytes c.args.remark other) short) c.requires (sym c.position.ensures.place ∙ c.in-Some.is))

pub returns-in-None-clause-none : goal.returns-in-None-clause-none
returns-in-None-clause-none c =
    (λ _. absent-from_position c.args.generation c.args.files.now (sym c.position.ensures.place ∙ c.in-None.is), λ _. refl)

pub returns-in-None-clause-changed : goal.returns-in-None-clause-changed
returns-in-None-clause-changed c =
    sym (changed-absent c.args.generation (with_remark c.args.remark) c.args.files.now (absent-from_position c.args.generation c.args.files.now (sym c.position.ensures.place ∙ c.in-None.is)))
