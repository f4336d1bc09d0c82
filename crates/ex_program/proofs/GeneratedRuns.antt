-- What is after a generated run, and after one over keys.
use Rattle.std.proofs.Common.{◌≡◌, ◌≤◌, ℕ, ◌+◌, List, ◌∷◌, ◌++◌, Option, None, Some, refl, ap, subst, inl, inr, arith}
use Rattle.std.proofs.lemmas.List.Sums.{sum_by-append}
use Rattle.cm_lists.proofs.Options.{one_some}
use Rattle.cm_io.specs.Contents.{Contents}
use Rattle.cm_io.specs.declared.status.Status.{Status}
use Rattle.cm_io.specs.declared.status.Status.TheVariants as status
use Rattle.cm_run.specs.Event.{Event, Memory, event_trials, trials_of}
use Rattle.ex_system.specs.Disk.{Disk}
use Rattle.ex_system.specs.Form.{Form}
use Rattle.ex_run.specs.Scene.{Scene, Telling}
use Rattle.ex_program.specs.Generates.{Rises, Sums}
use Rattle.ex_program.specs.Summary.{LacksMemory, generated_trace}
use Rattle.ex_take.specs.ExecState.{ExecState}
use Rattle.ex_program.specs.RunEnd.{Stands, StandsApart, with_count}

pub stands_generated : (known : Telling) (asked : Option Form) (lines : Option ℕ) (count : ℕ) (a : Scene) (screen : Contents) (faults trials : ℕ)
    (disk : Disk) (result : Status) → None ≡ asked → Some count ≡ lines → Sums count a.screen screen a.faults.screen faults result
    → Rises count a.trials trials result → Stands known asked lines a (with_count a screen faults trials) disk disk result
stands_generated known asked lines count a screen faults trials disk result is some sums rises =
    let b = with_count a screen faults trials in
    subst (λ (it : Option Form). Stands known it lines a b disk disk result) is
    (subst (λ (it : Option ℕ). StandsApart it a b result) some (record { screen = sums; counter = rises; rest = refl }), refl)

-- what its counter says: all of its trials, and where memory runs out no more
module _ (asked : Option ℕ) (count lines before now : ℕ) (some : Some count ≡ asked) (is : asked ≡ Some lines) where
  same : count ≡ lines
  same = one_some asked count lines some is

  pub generated_counted : (result : Status) → Rises count before now result → (result ≡ status.NoMemory → ⊥)
      → now ≡ before + trials_of (generated_trace lines)
  generated_counted status.NoMemory rises other = absurd (other refl)
  generated_counted result rises other = subst (λ it. now ≡ before + trials_of (generated_trace it)) same rises

  pub generated_most : (result : Status) → Rises count before now result → now ≤ before + trials_of (generated_trace lines)
  generated_most status.NoMemory rises = subst (λ it. now ≤ before + trials_of (generated_trace it)) same (by rises) where
    by : LacksMemory count before now → now ≤ before + trials_of (generated_trace count)
    by (inl stays) = omega (arith, stays)
    by (inr cut) =
        let counted : now ≡ before + trials_of cut.done = cut.trials in
        let both : trials_of (cut.done ++ Memory ∷ cut.rest) ≡ trials_of cut.done + trials_of (Memory ∷ cut.rest) =
        sum_by-append event_trials cut.done (Memory ∷ cut.rest) in
        let whole : trials_of (cut.done ++ Memory ∷ cut.rest) ≡ trials_of (generated_trace count) =
        ap (λ (events : List (Event ExecState)). trials_of events) cut.split in
        omega (arith, counted, both, whole)
  generated_most result rises =
      let all : now ≡ before + trials_of (generated_trace count) = rises in
      subst (λ it. now ≤ before + trials_of (generated_trace it)) same (omega (arith, all))
