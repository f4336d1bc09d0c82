-- When a run is cut short, by the counts of faults.
use Rattle.std.specs.Prelude.{◌≡◌, ◌≤◌, ◌<◌, ◌+◌, ℕ, Bool, true, false, Result, Ok, Err}
use Rattle.cm_io.specs.Fault.{Rose}
use Rattle.cm_run.specs.declared.stop.Stop.{Stop}
use Rattle.cm_run.specs.declared.stop.Stop.TheVariants as stop

-- how often the screen, the log and the keys have failed
pub record Counts : Type 0 where
  pub screen : ℕ
  pub log : ℕ
  pub keys : ℕ

abbrev pub counts : ℕ → ℕ → ℕ → Counts
counts screen log keys = record { screen = screen; log = log; keys = keys }

-- the count of what failed rose, and each other stayed
abbrev pub StopCause : Counts → Counts → Stop → Type 0
StopCause before now stop.Screen = Rose before.screen now.screen × (now ≡ record before { screen = now.screen })
StopCause before now stop.Log = Rose before.log now.log × (now ≡ record before { log = now.log })
StopCause before now stop.Keys = Rose before.keys now.keys × (now ≡ record before { keys = now.keys })
StopCause before now stop.Memory = now ≡ before
StopCause before now stop.Limit = now ≡ before

-- [run-cause] no count rose where the run was not cut short
unfoldable pub RunCause : Counts → Counts → Result Unit Stop → Type 0
RunCause before now (Ok value) = now ≡ before
RunCause before now (Err why) = StopCause before now why

-- a key that is taken is cut short by the screen, by the log or by lack of memory
unfoldable pub KeystrokeCause : Counts → Counts → Result Unit Stop → Type 0
KeystrokeCause before now (Ok value) = now ≡ before
KeystrokeCause before now (Err stop.Screen) = StopCause before now stop.Screen
KeystrokeCause before now (Err stop.Log) = StopCause before now stop.Log
KeystrokeCause before now (Err stop.Memory) = now ≡ before
KeystrokeCause before now (Err stop.Keys) = ⊥
KeystrokeCause before now (Err stop.Limit) = ⊥

-- acts are cut short by the screen, whose count rose then, or by lack of memory
unfoldable pub ObeyCause : ℕ → ℕ → Result Unit Stop → Type 0
ObeyCause before now (Ok value) = now ≡ before
ObeyCause before now (Err stop.Screen) = Rose before now
ObeyCause before now (Err stop.Memory) = now ≡ before
ObeyCause before now (Err stop.Log) = ⊥
ObeyCause before now (Err stop.Keys) = ⊥
ObeyCause before now (Err stop.Limit) = ⊥

-- of the keys that were left at most so many were taken: exactly so many at the limit, and fewer where the keys were
-- read to their end or could not be read on
abbrev pub OverCount : ℕ → ℕ → ℕ → Bool → Type 0
OverCount limit before now true = before ≤ now + limit
OverCount limit before now false = before < now + limit

-- [key-limit]
unfoldable pub KeyCount : ℕ → ℕ → ℕ → Bool → Result Unit Stop → Type 0
KeyCount limit before now ended (Ok value) = OverCount limit before now ended
KeyCount limit before now ended (Err stop.Limit) = (before ≡ now + limit) × (ended ≡ false)
KeyCount limit before now ended (Err stop.Keys) = before < now + limit
KeyCount limit before now ended (Err why) = before ≤ now + limit
