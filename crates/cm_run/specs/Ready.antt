-- What the engine holds of its session between two keys.
use Rattle.std.specs.Prelude.{◌≡◌}
use Rattle.cm_state.specs.SessionState.{SessionState, IsReady}
use Rattle.cm_run.specs.declared.mode.Mode.{Mode}
use Rattle.cm_run.specs.declared.mode.Mode.TheVariants as mode
use Rattle.cm_run.specs.Semantics.{IsLineAt, Semantics, setting_of}

-- a line is edited: its session is ready for a key, and begins at the node of the mode
pub record IsAtLine {S : Type 0} (m : Semantics S) (state : S) (session : SessionState) : Type 0 where
  pub ready : IsReady (setting_of m state) session
  pub line : IsLineAt (m.mode_of state) session.node

-- where a line is edited, its session is ready for a key, and begins at the node of the mode
abbrev pub IsReadyBy : {S : Type 0} → Semantics S → S → SessionState → Mode → Type 0
IsReadyBy m state session (mode.Line node prompt takes_moment) =
    IsReady (setting_of m state) session × (session.node ≡ node)
IsReadyBy m state session mode.Raw = Unit {0}
IsReadyBy m state session mode.Ended = Unit {0}

unfoldable pub IsReadyIn : {S : Type 0} → Semantics S → S → SessionState → Type 0
IsReadyIn m state session = IsReadyBy m state session (m.mode_of state)
