-- What is at the end of a run.
use Rattle.std.specs.Prelude.{◌≡◌, ◌++◌, ℕ, Option, Some, None}
use Rattle.cm_io.specs.Contents.{Contents}
use Rattle.cm_io.specs.declared.status.Status.{Status}
use Rattle.cm_io.specs.declared.status.Status.TheVariants as status
use Rattle.cm_text.specs.ScreenBytes.{end_of_line}
use Rattle.ex_system.specs.Disk.{Disk}
use Rattle.ex_system.specs.Form.{Form}
use Rattle.ex_run.specs.Course.{Shown, StandsBy}
use Rattle.ex_run.specs.Scene.{Scene, Telling, with_screen}
use Rattle.ex_program.specs.ExecRun.{exec_over}
use Rattle.ex_program.specs.Form.{usage}
use Rattle.ex_program.specs.Generates.{Rises, Sums}

-- the screen and the counter alone have changed
abbrev pub with_count : Scene → Contents → ℕ → ℕ → Scene
with_count at screen faults trials = record (with_screen at screen faults) { trials = trials }

-- the keys of so many lines were generated and run over, and nothing but the screen and the counter is touched
pub record Generated (lines : ℕ) (a b : Scene) (result : Status) : Type 0 where
  pub screen : Sums lines a.screen b.screen a.faults.screen b.faults.screen result
  pub counter : Rises lines a.trials b.trials result
  pub rest : b ≡ with_count a b.screen b.faults.screen b.trials

-- where the words ask for no run over keys: the usage, or a generated run
abbrev pub StandsApart : Option ℕ → Scene → Scene → Status → Type 0
StandsApart None a b result = (result ≡ status.Usage) × Shown a b (usage ++ end_of_line)
StandsApart (Some lines) a b result = Generated lines a b result

-- what is at the end, by whether keys and clock tell
abbrev pub Stands : Telling → Option Form → Option ℕ → Scene → Scene → Disk → Disk → Status → Type 0
Stands known None lines a b before now result = StandsApart lines a b result × (now ≡ before)
Stands known (Some form) lines a b before now result = StandsBy known exec_over form a b before now result
