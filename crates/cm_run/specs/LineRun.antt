-- The run of a program that acts by lines alone.
use Rattle.std.specs.Prelude.{◌≡◌, ℕ, false, List, [], ◌++◌, length, Result, Ok, Err}
use Rattle.cm_io.specs.Fault.{Rose}
use Rattle.cm_run.specs.Cause.{KeyCount}
use Rattle.cm_run.specs.Cut.{Traces}
use Rattle.cm_run.specs.LineSemantics.{LineSemantics, lines_only}
use Rattle.cm_run.specs.Observation.{Observation}
use Rattle.cm_run.specs.Progress.{MeetSound}
use Rattle.cm_run.specs.Trace.{is_ended, run_trace, starting}
use Rattle.cm_run.specs.declared.line_program.TheConstants.{LINE_KEYS}
use Rattle.cm_run.specs.declared.stop.Stop.{Stop}
use Rattle.cm_run.specs.declared.stop.Stop.TheVariants as stop

-- what is at its end: its trace, or a cut of it, without a log and without moments; how many keys were taken; and
-- what each of them met is sound
pub record LineRun {S : Type 0} (p : LineSemantics S) (before now : Observation S) (result : Result Unit Stop)
    : Type 0 where
  pub traces : Traces before now (run_trace (lines_only p) false before.state [] before.keys) result
  pub count : KeyCount LINE_KEYS (length before.keys) (length now.keys)
      (is_ended ((lines_only p).mode_of now.state)) result
  pub sound : (taken rest : List ℕ) → (taken ++ rest) ++ now.keys ≡ before.keys
      → MeetSound (lines_only p) (starting (lines_only p) before.state []) taken

-- the counts of faults of the keys and the screen: that of what failed rose, and each other stayed; there is no log,
-- and memory never runs out
unfoldable pub LineCause : (keys keys' screen screen' : ℕ) → Result Unit Stop → Type 0
LineCause keys keys' screen screen' (Ok value) = (keys' ≡ keys) × (screen' ≡ screen)
LineCause keys keys' screen screen' (Err stop.Limit) = (keys' ≡ keys) × (screen' ≡ screen)
LineCause keys keys' screen screen' (Err stop.Keys) = Rose keys keys' × (screen' ≡ screen)
LineCause keys keys' screen screen' (Err stop.Screen) = (keys' ≡ keys) × Rose screen screen'
LineCause keys keys' screen screen' (Err stop.Log) = ⊥
LineCause keys keys' screen screen' (Err stop.Memory) = ⊥

-- the number that a process ends with whose run ended so
abbrev pub status_of : Result Unit Stop → ℕ
status_of (Ok value) = 0
status_of (Err stop.Limit) = 0
status_of (Err stop.Keys) = 1
status_of (Err stop.Screen) = 2
status_of (Err stop.Log) = 2
status_of (Err stop.Memory) = 3
