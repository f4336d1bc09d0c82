-- Trials of a single byte.
use Rattle.std.proofs.Common.{◌≡◌, ℕ, ◌==◌, List, [], ◌∷◌, ◌++◌, length, refl, arith}
use Rattle.std.proofs.lemmas.Bool.{cond_both}
use Rattle.cm_fields.specs.declared.value.Value.{Value}
use Rattle.cm_fields.specs.declared.trial.Try.TheVariants.{Accept}
use Rattle.cm_fields.specs.Local.{Holds, IsLocal, IsSeen}
use Rattle.cm_fields.specs.Mark.{comma, confirm}
use Rattle.cm_fields.proofs.Trials.{LooksBeyond, Reaches, ReachesIfAccept, holds_beyond, holds_same, is_local, reaches_accepted}

comma_decided : (front more other : List ℕ) (at : ℕ) → Holds (length front) (comma (front ++ more) at) (comma (front ++ other) at)
comma_decided [] [] other at = tt
comma_decided [] (byte ∷ more) other at =
    holds_beyond _ _ _ (cond_both (byte == 44) _ _ (LooksBeyond 0) (λ _. omega arith) (λ _. omega arith))
comma_decided (byte ∷ front) more other at = holds_same _ _ _ refl

comma_seen : (rest : List ℕ) (at : ℕ) → IsSeen (length rest) (comma rest at)
comma_seen [] at = tt
comma_seen (byte ∷ rest) at =
    cond_both (byte == 44) _ _ (IsSeen (length (byte ∷ rest))) (λ _. omega arith) (λ _. omega arith)

pub comma_is_local : IsLocal comma
comma_is_local = is_local comma comma_decided comma_seen

comma_reaches_if : (rest : List ℕ) (at : ℕ) → ReachesIfAccept at (length rest) (comma rest at)
comma_reaches_if [] at = tt
comma_reaches_if (byte ∷ rest) at =
    cond_both (byte == 44) _ _ (ReachesIfAccept at (length (byte ∷ rest))) (λ _. record { some = omega arith; begins = omega arith; seen = omega arith; within = omega arith }) (λ _. tt)

-- an accepted comma is a byte of the text
pub comma_reaches : (rest : List ℕ) (at : ℕ) (value : Value) (looked end : ℕ) → comma rest at ≡ Accept value looked end
    → Reaches at (length rest) looked end
comma_reaches rest at value looked end is = reaches_accepted at (length rest) (comma rest at) value looked end (comma_reaches_if rest at) is

confirm_decided : (front more other : List ℕ) (at : ℕ)
    → Holds (length front) (confirm (front ++ more) at) (confirm (front ++ other) at)
confirm_decided [] [] other at = tt
confirm_decided [] (byte ∷ more) other at =
    holds_beyond _ _ _ (cond_both (byte == 13) _ _ (LooksBeyond 0) (λ _. omega arith) (λ _. omega arith))
confirm_decided (byte ∷ front) more other at = holds_same _ _ _ refl

confirm_seen : (rest : List ℕ) (at : ℕ) → IsSeen (length rest) (confirm rest at)
confirm_seen [] at = tt
confirm_seen (byte ∷ rest) at =
    cond_both (byte == 13) _ _ (IsSeen (length (byte ∷ rest))) (λ _. omega arith) (λ _. omega arith)

pub confirm_is_local : IsLocal confirm
confirm_is_local = is_local confirm confirm_decided confirm_seen

confirm_reaches_if : (rest : List ℕ) (at : ℕ) → ReachesIfAccept at (length rest) (confirm rest at)
confirm_reaches_if [] at = tt
confirm_reaches_if (byte ∷ rest) at =
    cond_both (byte == 13) _ _ (ReachesIfAccept at (length (byte ∷ rest))) (λ _. record { some = omega arith; begins = omega arith; seen = omega arith; within = omega arith }) (λ _. tt)

-- an accepted end of the line is looked at and left
pub confirm_reaches : (rest : List ℕ) (at : ℕ) (value : Value) (looked end : ℕ) → confirm rest at ≡ Accept value looked end
    → Reaches at (length rest) looked end
confirm_reaches rest at value looked end is =
    reaches_accepted at (length rest) (confirm rest at) value looked end (confirm_reaches_if rest at) is
