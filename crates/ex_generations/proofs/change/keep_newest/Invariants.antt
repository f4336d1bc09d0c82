use Rattle.std.proofs.Common.{◌≡◌, ◌++◌, take, drop}
use Rattle.ex_generations.specs.Retention.{kept_newest, live}
use Rattle.ex_generations.proofs.change.keep_newest.Given as goal

abbrev pub invariant-loop-file : goal.invariant-loop-file
invariant-loop-file l =
    (l.above ≡ live (drop l.file-index l.files))
    × (take l.file-index l.files ++ kept_newest l.keep (drop l.file-index l.files) ≡ kept_newest l.keep l.initial.files)
