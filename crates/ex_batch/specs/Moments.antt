-- The moments of a clock, also of one that does not tell them.
use Rattle.std.specs.Prelude.{◌≡◌, ◌<◌, ℕ, List, length, Bool, true, false}

-- moments to come: those of a clock that tells, and any of one that does not
abbrev pub AreToCome : Bool → List ℕ → List ℕ → Type 0
AreToCome true left moments = moments ≡ left
AreToCome false left moments = 0 < length moments

-- there are moments to come before something of which this holds, where these come after it
pub record Before (tells : Bool) (left later : List ℕ) (Holds : List ℕ → List ℕ → Type 0) : Type 0 where
  pub given : List ℕ
  pub are : AreToCome tells left given
  pub holds : Holds given later

-- and so there are whatever moments come after it
pub record OverMoments (tells : Bool) (before now : List ℕ) (Holds : List ℕ → List ℕ → Type 0) : Type 0 where
  pub from : (later : List ℕ) → AreToCome tells now later → Before tells before later Holds

-- there are moments, those of the clock where it tells, of which this holds
pub record OfMoments (known : Type 0) (left : List ℕ) (Holds : List ℕ → Type 0) : Type 0 where
  pub moments : List ℕ
  pub own : known → moments ≡ left
  pub holds : Holds moments
