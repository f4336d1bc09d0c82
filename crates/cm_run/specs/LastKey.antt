-- The last of the keys that a run took, and what it met.
use Rattle.std.specs.Prelude.{◌≡◌, ℕ, false, List, [], ◌∷◌, ◌++◌}
use Rattle.cm_run.specs.Semantics.{Semantics}
use Rattle.cm_run.specs.Progress.{progress}
use Rattle.cm_run.specs.Trace.{RunState, is_ended}

module _ {S : Type 0} where
  -- some keys were taken, and this one after all others, where the run had not ended
  pub record LastKey (m : Semantics S) (start : RunState S) (taken : List ℕ) : Type 0 where
    pub first : List ℕ
    pub key : ℕ
    pub joined : first ++ key ∷ [] ≡ taken
    pub going : is_ended (m.mode_of (progress m start first).state) ≡ false

  -- what it met: the line under edit, the state and the moments to come after those before it
  abbrev pub met_by : (m : Semantics S) (start : RunState S) (taken : List ℕ) → LastKey m start taken → RunState S
  met_by m start taken last = progress m start last.first
