use Rattle.std.proofs.Common.{◌≡◌, drop}
use Rattle.ex_generations.specs.Generations.{lowest, with_mark}
use Rattle.ex_generations.proofs.search.lowest.Given as goal

abbrev pub invariant-loop-file : goal.invariant-loop-file
invariant-loop-file l =
    lowest (with_mark l.deleted (drop l.file-index l.files)) ≡ lowest (with_mark l.deleted l.files)
