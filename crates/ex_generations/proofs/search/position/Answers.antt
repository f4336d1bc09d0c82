use Rattle.std.proofs.Common.{◌≡◌, false, length, nat_lt, sym, ap, ◌∙◌}
use Rattle.std.proofs.lemmas.Bool.{both_ways, lt-ltb, ltb-true}
use Rattle.std.proofs.lemmas.List.{get_or_default}
use Rattle.std.specs.Option.{is_some}
use Rattle.ex_generations.specs.declared.file.File.{File}
use Rattle.ex_generations.proofs.Halves.{found_at, none_at}
use Rattle.ex_generations.proofs.search.position.Goals as goal

pub returns-in-Some-clause-place : goal.returns-in-Some-clause-place
returns-in-Some-clause-place c =
    found_at c.args.generation c.args.files.now c.place-at.result c.in-Some.file.now c.place-at.ensures.place
    (ltb-true _ _ (sym c.in-Some.ensures.lookup.0)) c.in-Some.ensures.lookup.1 c.if-file-generation.true

pub returns-in_default-clause-place : goal.returns-in_default-clause-place
returns-in_default-clause-place c =
    none_at c.args.generation c.args.files.now c.place-at.result c.requires c.place-at.ensures.place
    (λ d within same. c.if-file-generation.false
    (ap (λ (other : File). other.generation) (c.in-Some.ensures.lookup.1 ∙ get_or_default c.args.files.now c.place-at.result c.in-Some.file.now d within) ∙ same))

pub returns-in_default-2-clause-place : goal.returns-in_default-2-clause-place
returns-in_default-2-clause-place c =
    let past : nat_lt c.place-at.result (length c.args.files.now) ≡ false = sym c.get.ensures.lookup.0 ∙ ap is_some c.in_default.is in
    none_at c.args.generation c.args.files.now c.place-at.result c.requires c.place-at.ensures.place
    (λ d within same. both_ways _ past (lt-ltb _ _ within))
