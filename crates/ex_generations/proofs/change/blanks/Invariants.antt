use Rattle.std.proofs.Common.{◌≡◌, ◌++◌, drop, map}
use Rattle.ex_generations.specs.Generations.{blank}
use Rattle.ex_generations.proofs.change.blanks.Given as goal

abbrev pub invariant-loop-file : goal.invariant-loop-file
invariant-loop-file l = l.blanks.items ++ map blank (drop l.file-index l.files) ≡ map blank l.files
