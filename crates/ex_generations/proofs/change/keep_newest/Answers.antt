use Rattle.std.proofs.Common.{◌≡◌, subst, sym, arith}
use Rattle.std.proofs.lemmas.Grind.{common_steps}
use Rattle.ex_generations.specs.Generations.{IsAscending}
use Rattle.ex_generations.specs.Retention.{kept_newest}
use Rattle.ex_generations.proofs.Ascents.{IsAscending-kept}
use Rattle.ex_generations.proofs.change.keep_newest.Goals as goal

pub returns-clause-ascending : goal.returns-clause-ascending
returns-clause-ascending c =
    let kept : c.loop-file.files ≡ kept_newest c.args.keep c.args.files.now = grind (arith, common_steps) in
    subst (IsAscending 0) (sym kept) (IsAscending-kept c.args.keep c.args.files.now 0 c.requires)
