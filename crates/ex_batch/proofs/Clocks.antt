-- What happens over the moments of a clock, step by step.
use Rattle.std.proofs.Common.{◌≡◌, ◌<◌, ℕ, Bool, true, false, List, [], ◌∷◌, length, IsTrue, refl, ◌∙◌, arith}
use Rattle.cm_io.specs.Clock.{later_moments, next_moment}
use Rattle.ex_batch.specs.Moments.{AreToCome, OfMoments, OverMoments}

module _ {tells : Bool} where
  -- no moment is taken
  pub moments_same : {left : List ℕ} {Holds : List ℕ → List ℕ → Type 0} → ((moments : List ℕ) → Holds moments moments)
      → OverMoments tells left left Holds
  moments_same holds = record { from = λ later are. record { given = later; are = are; holds = holds later } }

  -- something else holds of the same
  pub moments_as : {before now : List ℕ} {Holds Other : List ℕ → List ℕ → Type 0} → OverMoments tells before now Holds
      → ((given later : List ℕ) → Holds given later → Other given later) → OverMoments tells before now Other
  moments_as over other = record {
    from = λ later are. let found = over.from later are in
        record { given = found.given; are = found.are; holds = other found.given later found.holds };
  }

  -- one thing happens after the other
  pub moments_then : {before middle now : List ℕ} {First Second Both : List ℕ → List ℕ → Type 0}
      → OverMoments tells before middle First → OverMoments tells middle now Second
      → ((given between later : List ℕ) → First given between → Second between later → Both given later)
      → OverMoments tells before now Both
  moments_then first second both = record {
    from = λ later are.
        let after = second.from later are in
        let found = first.from after.given after.are in
        record { given = found.given; are = found.are; holds = both found.given after.given later found.holds after.holds };
  }

-- at least one is to come after one that is given again and again
some_later : (moment : ℕ) (later : List ℕ) → 0 < length later → later ≡ later_moments (moment ∷ later)
some_later moment [] some = absurd (omega (arith, some))
some_later moment (next ∷ later) some = refl

-- a moment is taken
pub moment_given : (tells : Bool) (before now : List ℕ) (moment : ℕ) → (IsTrue tells → moment ≡ next_moment before)
    → (IsTrue tells → now ≡ later_moments before)
    → OverMoments tells before now (λ given later. (moment ≡ next_moment given) × (later ≡ later_moments given))
moment_given true before now moment is goes = record {
  from = λ later are. record { given = before; are = refl; holds = (is refl, are ∙ goes refl) };
}
moment_given false before now moment is goes = record {
  from = λ later some. record { given = moment ∷ later; are = omega arith; holds = (refl, some_later moment later some) };
}

-- those that a clock has which tells
pub known_moments : (tells : Bool) (left moments : List ℕ) → AreToCome tells left moments → IsTrue tells → moments ≡ left
known_moments true left moments are tell = are
known_moments false left moments are tell = let wrong : false ≡ true = tell in absurd (cc)

-- moments after the end of a run
pub some_moments : (tells : Bool) (left : List ℕ) → (moments : List ℕ) × AreToCome tells left moments
some_moments true left = (left, refl)
some_moments false left = (0 ∷ [], omega arith)

-- something else holds of the same
pub moments_hold : {known : Type 0} {left : List ℕ} {Holds Other : List ℕ → Type 0} → OfMoments known left Holds
    → ((moments : List ℕ) → Holds moments → Other moments) → OfMoments known left Other
moments_hold found other = record { moments = found.moments; own = found.own; holds = other found.moments found.holds }
