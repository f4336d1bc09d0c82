-- How far the lines of a generated run are taken.
use Rattle.std.specs.Prelude.{ℕ, ◌≤◌, ◌<◌, ◌+◌, List, ◌++◌, drop, length}
use Rattle.ex_program.specs.GeneratedKeys.{keys_after}
use Rattle.ex_program.specs.declared.progress.Progress.{Progress}
use Rattle.ex_program.specs.declared.progress.TheConstants.{GENERATED_LINES, NUMBER_LIMIT}

-- the keys that are left of the line at hand, and those of the lines to come
abbrev pub keys_left : Progress → List ℕ
keys_left progress =
    drop progress.taken progress.keys.bytes ++ keys_after progress.position progress.number progress.lines

-- what holds of it between two keys
pub record IsProgress (progress : Progress) : Type 0 where
  pub taken : progress.taken ≤ length progress.keys.bytes
  pub number : progress.number < NUMBER_LIMIT
  pub lines : progress.position + progress.lines ≤ GENERATED_LINES
