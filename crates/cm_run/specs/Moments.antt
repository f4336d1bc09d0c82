-- The moments that a clock gives in a run, also one that does not tell them.
use Rattle.std.specs.Prelude.{◌≡◌, ℕ, Bool, true, false, List, [], ◌∷◌, ◌++◌}
use Rattle.cm_state.specs.SessionState.{SessionState}
use Rattle.cm_run.specs.Semantics.{Semantics}
use Rattle.cm_run.specs.Progress.{progress}
use Rattle.cm_run.specs.Trace.{RunState, is_ended, run_state, starting}

-- the moment that is given, where one is taken
abbrev pub given_if : Bool → ℕ → List ℕ
given_if true moment = moment ∷ []
given_if false moment = []

module _ {S : Type 0} where
  -- from moments to come it leads to this session and this state, where some were given, whatever is to come after
  -- them: one more at least, since the last is given again and again
  pub record Leads (to : List ℕ → RunState S) (session : SessionState) (state : S) : Type 0 where
    pub given : List ℕ
    pub leads : (moment : ℕ) (more : List ℕ) → run_state session state (moment ∷ more) ≡ to (given ++ moment ∷ more)

  -- the run went from one state to another: over the keys that were taken, at some moments. Where the application has
  -- not ended it no key is left
  pub record RunsTo (m : Semantics S) (state left : S) (before now : List ℕ) : Type 0 where
    pub moments : List ℕ
    pub keys : List ℕ
    pub joined : keys ++ now ≡ before
    pub leads : left ≡ (progress m (starting m state moments) keys).state
    pub last : is_ended (m.mode_of left) ≡ false → now ≡ []
