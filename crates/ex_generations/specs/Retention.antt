-- How many generations are kept when one is added, and how many the next one keeps.
use Rattle.std.specs.Prelude.{ℕ, ◌==◌, true, if◌then◌else◌, nat_le, List, [], ◌∷◌, length}
use Rattle.ex_generations.specs.declared.file.File.{File}
use Rattle.ex_generations.specs.Generations.{inserted, marked_as, unmarked}

-- how many files are not marked as deleted
abbrev pub live : List File → ℕ
live files = length (unmarked files)

-- each file with at least so many unmarked ones above it is marked
abbrev pub kept_newest : ℕ → List File → List File
kept_newest keep [] = []
kept_newest keep (file ∷ more) =
    (if nat_le keep (live more) then marked_as true file else file) ∷ kept_newest keep more

-- [retention] so many unmarked files are kept, and with 0 all are
abbrev pub retained : ℕ → List File → List File
retained keep files = if keep == 0 then files else kept_newest keep files

-- the file at its place, and then all unmarked files but as many of the highest as it keeps are marked
abbrev pub added : File → List File → List File
added file files = retained file.keep (inserted file files)

-- how many the highest file keeps, marked or not, and this many with no file
abbrev pub keep_for : ℕ → List File → ℕ
keep_for keep [] = keep
keep_for keep (file ∷ more) = keep_for file.keep more
