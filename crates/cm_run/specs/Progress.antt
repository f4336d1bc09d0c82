-- Where the keys of a run lead.
use Rattle.std.specs.Prelude.{◌≡◌, ℕ, ◌+◌, false, List, [], ◌∷◌, if◌then◌else◌}
use Rattle.cm_run.specs.Event.{trials_of}
use Rattle.cm_run.specs.Semantics.{Semantics, setting_of}
use Rattle.cm_run.specs.Sound.{IsSound}
use Rattle.cm_run.specs.Trace.{Keystroke, RunState, is_ended, keystroke, step}

module _ {S : Type 0} where
  -- the line under edit, the state and the moments to come after these keys, as far as the run goes on
  unfoldable pub progress : Semantics S → RunState S → List ℕ → RunState S
  progress m at [] = at
  progress m at (key ∷ keys) = if is_ended (m.mode_of at.state) then at else progress m (step m at key) keys

  -- what each of these keys meets is sound, as far as the run goes on
  unfoldable pub MeetSound : Semantics S → RunState S → List ℕ → Type 0
  MeetSound m at [] = Unit {0}
  MeetSound m at (key ∷ keys) =
      is_ended (m.mode_of at.state) ≡ false → IsSound (setting_of m at.state) × MeetSound m (step m at key) keys

  -- what a key costs: the trials of its line, and of the lines of command files that it takes
  abbrev pub keystroke_cost : Keystroke S → ℕ
  keystroke_cost s = s.cost + trials_of s.outcome.events

  -- what these keys cost, as far as the run goes on
  unfoldable pub keys_cost : Semantics S → RunState S → List ℕ → ℕ
  keys_cost m at [] = 0
  keys_cost m at (key ∷ keys) =
      if is_ended (m.mode_of at.state) then 0 else keystroke_cost (keystroke m at key)
      + keys_cost m (step m at key) keys
