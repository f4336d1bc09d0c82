use Rattle.std.proofs.Common.{◌≡◌, map, subst, sym, arith}
use Rattle.std.proofs.lemmas.Grind.{common_steps}
use Rattle.ex_generations.specs.Generations.{IsAscending, blank}
use Rattle.ex_generations.proofs.Ascents.{IsAscending-blank}
use Rattle.ex_generations.proofs.change.blanks.Goals as goal

pub returns-clause-ascending : goal.returns-clause-ascending
returns-clause-ascending c =
    let all : c.loop-file.blanks.items ≡ map blank c.args.files.now = grind (arith, common_steps) in
    subst (IsAscending 0) (sym all) (IsAscending-blank c.args.files.now 0 c.requires)
