use Rattle.std.proofs.Common.{sym, ◌∙◌}
use Rattle.ex_generations.proofs.Places.{absent-from_position, find_absent, find_is}
use Rattle.ex_generations.proofs.search.find.Goals as goal

pub returns-in-Some : goal.returns-in-Some
returns-in-Some c =
    sym (find_is c.args.generation c.args.files.now c.in-Some.at c.index-files-at.result c.requires (sym c.position.ensures.place ∙ c.in-Some.is) c.index-files-at.is)

pub returns-in-None : goal.returns-in-None
returns-in-None c = sym (find_absent c.args.generation c.args.files.now (absent-from_position c.args.generation c.args.files.now (sym c.position.ensures.place ∙ c.in-None.is)))
