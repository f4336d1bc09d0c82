-- When a run that stopped so and closed so ends with a status, by the counts of faults.
-- A sum over the answers of a status has a catch-all: HostCause reduces at each status but HostFault, and by_or goes
-- over a status that is one of two.
use Rattle.std.proofs.Common.{◌≡◌, ℕ, Bool, true, false, List, Option, Some, Result, Ok, Err, refl, sym, ap, ◌∙◌, subst, inl, inr}
use Rattle.cm_io.specs.Fault.{Rose}
use Rattle.cm_io.specs.Contents.{Contents}
use Rattle.cm_run.specs.Cause.{Counts, RunCause, StopCause}
use Rattle.cm_run.specs.declared.stop.Stop.{Stop}
use Rattle.cm_run.specs.declared.stop.Stop.TheVariants as stop
use Rattle.ex_run.specs.Cause.{EndCause, StatusCause}
use Rattle.ex_run.specs.Closing.{Closes, Ends}
use Rattle.ex_system.specs.Saving.{IsOr}
use Rattle.ex_system.specs.Start.{IsEarly, IsRun}
use Rattle.cm_io.specs.declared.status.Status.{Status}
use Rattle.cm_io.specs.declared.status.Status.TheVariants as status

-- a status is as the one that it may be, or HostFault
pub by_or : (P : Status → Type 0) (result why : Status) → IsOr result why → (result ≡ why → P why) → (result ≡ status.HostFault → P status.HostFault) → P result
by_or P result why (inl same) holds host = subst P (sym same) (holds same)
by_or P result why (inr same) holds host = subst P (sym same) (host same)

-- the outcome of a run, by the counts
cause_stays : (a b : Counts) → b ≡ a → (b.keys ≡ a.keys) × (b.log ≡ a.log)
cause_stays a b same = (ap (λ (counts : Counts). counts.keys) same, ap (λ (counts : Counts). counts.log) same)

cause_unread : (a b : Counts) (screen : ℕ) → StopCause a b stop.Keys → EndCause a (record b { screen = screen }) status.ReadFault
cause_unread a b screen cause = (cause.0, ap (λ (counts : Counts). counts.log) cause.1)

cause_cut : (a b : Counts) (screen : ℕ) → StopCause a b stop.Screen → screen ≡ b.screen → EndCause a (record b { screen = screen }) status.WriteFault
cause_cut a b screen cause same =
    (ap (λ (counts : Counts). counts.keys) cause.1, inl (subst (λ count. Rose a.screen count) (sym same) cause.0, ap (λ (counts : Counts). counts.log) cause.1))

cause_unlogged : (a b : Counts) (screen : ℕ) → StopCause a b stop.Log → EndCause a (record b { screen = screen }) status.WriteFault
cause_unlogged a b screen cause = (ap (λ (counts : Counts). counts.keys) cause.1, inr cause.0)

cause_unclosed : (a b : Counts) (screen : ℕ) → b ≡ a → Rose b.screen screen → EndCause a (record b { screen = screen }) status.WriteFault
cause_unclosed a b screen same rose = (
  ap (λ (counts : Counts). counts.keys) same,
  inl (subst (λ (counts : Counts). Rose counts.screen screen) same rose, ap (λ (counts : Counts). counts.log) same),
)

-- the counts after a run that stopped so and closed so
module _ (a b : Counts) (before now : Contents) (screen : ℕ) (result : Status) (quiet : result ≡ status.Done → screen ≡ b.screen) where
  abbrev last : Counts
  last = record b { screen = screen }

  -- the screen's count stayed
  still : screen ≡ b.screen → b ≡ a → last ≡ a
  still stays same = ap (λ count. record b { screen = count }) stays ∙ same

  ends_causes : (ended : Bool) → b ≡ a → Ends ended before now b.screen screen result → StatusCause a last result
  ends_causes true cause ends =
      by_or (StatusCause a last) result status.Done ends.0 (λ same. still (quiet same) cause) (λ _. (status.Done, cause_stays a b cause))
  ends_causes false cause (inl ends) =
      by_or (StatusCause a last) result status.Done ends.0 (λ same. still (quiet same) cause) (λ _. (status.Done, cause_stays a b cause))
  ends_causes false cause (inr ends) =
      by_or (StatusCause a last) result status.WriteFault ends.0
      (λ _. inl (
        subst (λ (counts : Counts). Rose counts.screen screen) cause ends.2,
        ap (λ (counts : Counts). record counts { screen = screen }) cause,
      ))
      (λ _. (status.WriteFault, cause_unclosed a b screen cause ends.2))

  pub closes_causes : (why : Result Unit Stop) (ended : Bool) → RunCause a b why → Closes why ended before now b.screen screen result
      → StatusCause a last result
  unfolding RunCause Closes
  closes_causes (Ok value) ended cause closes = ends_causes ended cause closes
  closes_causes (Err stop.Keys) ended cause closes =
      by_or (StatusCause a last) result status.ReadFault closes.0 (λ _. cause_unread a b screen cause)
      (λ _. (status.ReadFault, cause_unread a b screen cause))
  closes_causes (Err stop.Limit) ended cause closes =
      by_or (StatusCause a last) result status.KeyLimit closes.0 (λ _. cause_stays a b cause)
      (λ _. (status.KeyLimit, cause_stays a b cause))
  closes_causes (Err stop.Memory) ended cause closes =
      by_or (StatusCause a last) result status.NoMemory closes.0 (λ _. cause_stays a b cause)
      (λ _. (status.NoMemory, cause_stays a b cause))
  closes_causes (Err stop.Screen) ended cause closes =
      by_or (StatusCause a last) result status.WriteFault closes.0
      (λ _. inl (subst (λ count. Rose a.screen count) (sym closes.2) cause.0, ap (λ (counts : Counts). record counts { screen = screen }) cause.1))
      (λ _. (status.WriteFault, cause_cut a b screen cause closes.2))
  closes_causes (Err stop.Log) ended cause closes =
      by_or (StatusCause a last) result status.WriteFault closes.0
      (λ same. inr (cause.0, ap (λ count. record b { screen = count }) (closes.2 same) ∙ cause.1))
      (λ _. (status.WriteFault, cause_unlogged a b screen cause))

-- a run that closed so is past its first prompt
ends_run : (ended : Bool) (before now : Contents) (f g : ℕ) (result : Status) → Ends ended before now f g result → IsRun result
ends_run true before now f g result ends = by_or IsRun result status.Done ends.0 (λ _. tt) (λ _. tt)
ends_run false before now f g result (inl ends) = by_or IsRun result status.Done ends.0 (λ _. tt) (λ _. tt)
ends_run false before now f g result (inr ends) = by_or IsRun result status.WriteFault ends.0 (λ _. tt) (λ _. tt)

pub closes_run : (why : Result Unit Stop) (ended : Bool) (before now : Contents) (f g : ℕ) (result : Status) → Closes why ended before now f g result
    → IsRun result
unfolding Closes
closes_run (Ok value) ended before now f g result closes = ends_run ended before now f g result closes
closes_run (Err stop.Keys) ended before now f g result closes = by_or IsRun result status.ReadFault closes.0 (λ _. tt) (λ _. tt)
closes_run (Err stop.Limit) ended before now f g result closes = by_or IsRun result status.KeyLimit closes.0 (λ _. tt) (λ _. tt)
closes_run (Err stop.Memory) ended before now f g result closes = by_or IsRun result status.NoMemory closes.0 (λ _. tt) (λ _. tt)
closes_run (Err stop.Screen) ended before now f g result closes = by_or IsRun result status.WriteFault closes.0 (λ _. tt) (λ _. tt)
closes_run (Err stop.Log) ended before now f g result closes = by_or IsRun result status.WriteFault closes.0 (λ _. tt) (λ _. tt)

-- a status that came before the first prompt, by the counts
pub early_causes : (input : Option (List ℕ)) (a : Counts) (screen : ℕ) (result : Status) → IsEarly input result
    → StatusCause a (record a { screen = screen }) result
early_causes input a screen status.NoMemory early = (refl, refl)
early_causes (Some name) a screen status.HostFault early = (status.Done, (refl, refl))
early_causes (Some name) a screen status.NoImage early = (refl, refl)
early_causes (Some name) a screen status.ImageTooLarge early = (refl, refl)
early_causes (Some name) a screen (status.BadImage at kind) early = (refl, refl)
early_causes input a screen result early = absurd early

-- and it is neither Done nor Usage
pub early_not_done : (input : Option (List ℕ)) (result : Status) → IsEarly input result → result ≡ status.Done → ⊥
early_not_done input result early done = subst (λ (it : Status). IsEarly input it) done early

pub early_not_usage : (input : Option (List ℕ)) (result : Status) → IsEarly input result → result ≡ status.Usage → ⊥
early_not_usage input result early usage = subst (λ (it : Status). IsEarly input it) usage early

-- nor is one past it Usage
pub run_not_usage : (result : Status) → IsRun result → result ≡ status.Usage → ⊥
run_not_usage result run usage = subst IsRun usage run
