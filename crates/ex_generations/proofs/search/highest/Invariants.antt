use Rattle.std.proofs.Common.{◌≡◌, drop}
use Rattle.std.specs.Option.{option_or}
use Rattle.ex_generations.specs.Generations.{highest, with_mark}
use Rattle.ex_generations.proofs.search.highest.Given as goal

abbrev pub invariant-loop-file : goal.invariant-loop-file
invariant-loop-file l =
    option_or (highest (with_mark l.deleted (drop l.file-index l.files))) l.highest
    ≡ highest (with_mark l.deleted l.files)
