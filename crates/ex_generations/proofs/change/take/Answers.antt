use Rattle.std.proofs.Common.{◌≡◌, Some, None, position, sym, subst, ◌∙◌}
use Rattle.std.proofs.lemmas.Bool.{both_ways}
use Rattle.ex_generations.specs.Generations.{IsAscending, is_generation}
use Rattle.ex_generations.proofs.Ascents.{IsAscending-without}
use Rattle.ex_generations.proofs.Places.{absent-from_position, find_is, remove_is}
use Rattle.ex_generations.proofs.change.take.Goals as goal

pub unreachable-requires : goal.unreachable-requires
unreachable-requires c =
    let none : position (is_generation c.args.generation) c.args.files.now.items ≡ None = rw (← c.deref.ensures.value) (sym c.position.ensures.place ∙ c.in-None.is) in
    both_ways _ (absent-from_position c.args.generation c.args.files.now.items none) c.requires.there

pub returns-clause-file : goal.returns-clause-file
returns-clause-file c =
    let at : position (is_generation c.args.generation) c.args.files.now.items ≡ Some c.in-Some.at = rw (← c.deref.ensures.value) (sym c.position.ensures.place ∙ c.in-Some.is) in
    find_is c.args.generation c.args.files.now.items c.in-Some.at c.remove.result c.requires.ascending at c.remove.ensures.value

pub returns-clause-items : goal.returns-clause-items
returns-clause-items c =
    let at : position (is_generation c.args.generation) c.args.files.now.items ≡ Some c.in-Some.at = rw (← c.deref.ensures.value) (sym c.position.ensures.place ∙ c.in-Some.is) in
    c.remove.ensures.items ∙ remove_is c.args.generation c.args.files.now.items c.in-Some.at c.requires.ascending at

pub returns-clause-ascending : goal.returns-clause-ascending
returns-clause-ascending c =
    let at : position (is_generation c.args.generation) c.args.files.now.items ≡ Some c.in-Some.at = rw (← c.deref.ensures.value) (sym c.position.ensures.place ∙ c.in-Some.is) in
    subst (IsAscending 0) (sym (c.remove.ensures.items ∙ remove_is c.args.generation c.args.files.now.items c.in-Some.at c.requires.ascending at)) (IsAscending-without c.args.generation c.args.files.now.items c.requires.ascending)
