-- How a run is closed.
use Rattle.std.proofs.Common.{◌≡◌, ℕ, Result, Ok, Err, refl, sym, ◌∙◌, subst, inl, inr}
use Rattle.cm_io.specs.Fault.{Rose}
use Rattle.cm_io.specs.Contents.{Contents}
use Rattle.cm_io.specs.declared.status.Status.{Status}
use Rattle.cm_io.specs.declared.status.Status.TheVariants as status
use Rattle.cm_run.specs.Cause.{ObeyCause}
use Rattle.cm_run.specs.declared.stop.Stop.{Stop}
use Rattle.cm_run.specs.declared.stop.Stop.TheVariants as stop
use Rattle.ex_system.specs.Saving.{IsOr}
use Rattle.ex_batch.specs.RunEnd.{Closes, ClosesQuietly, IsWhole, ScreenCause, ShowsEnd, closing, end_status, end_text, status_of}
use Rattle.ex_batch.specs.Takes.{step_outcome}
use Rattle.ex_batch.specs.declared.step.Ended.{Ended}
use Rattle.ex_batch.specs.declared.step.Ended.TheVariants as ended

-- what each status says of the screen
pub screen_cause : (how : Result Ended Stop) (before now : Contents) (f g h : ℕ) (result : Status) → ObeyCause f g (step_outcome how)
    → Closes how before now g h result → ScreenCause f h result
unfolding ObeyCause
screen_cause how before now f g h result cause closes = by how cause closes.ends closes.shown
  where
    says_of : (this : Status) → result ≡ this → ScreenCause f h this → ScreenCause f h result
    says_of this is says = subst (λ (it : Status). ScreenCause f h it) (sym is) says

    by : (how : Result Ended Stop) → ObeyCause f g (step_outcome how) → IsOr result (status_of how)
        → ShowsEnd how before now g h result → ScreenCause f h result
    by how cause (inr is) shown = says_of status.HostFault is tt
    by (Ok ended.Finished) cause (inl is) shown =
        says_of status.Done is ((subst (λ (it : Status). ClosesQuietly before now g h it) is closes.quiet).1 ∙ cause)
    by (Ok (ended.Stopped code)) cause (inl is) shown = says_of status.Stopped is tt
    by (Err stop.Memory) cause (inl is) shown = says_of status.NoMemory is tt
    by (Err stop.Screen) cause (inl is) shown =
        says_of status.WriteFault is (subst (λ (count : ℕ). Rose f count) (sym shown.1) cause)
    by (Err stop.Log) cause (inl is) shown = absurd cause
    by (Err stop.Keys) cause (inl is) shown = absurd cause
    by (Err stop.Limit) cause (inl is) shown = absurd cause

-- a run that went so ends with one of these
pub of_status : (P : Status → Type 0) → P status.Done → P status.Stopped → P status.NoMemory → P status.WriteFault
    → P status.HostFault → (how : Result Ended Stop) (result : Status) → IsOr result (status_of how) → P result
of_status P done stopped memory failed host how result (inr is) = subst P (sym is) host
of_status P done stopped memory failed host how result (inl is) = subst P (sym is) (by how)
  where
    by : (how : Result Ended Stop) → P (status_of how)
    by (Ok ended.Finished) = done
    by (Ok (ended.Stopped code)) = stopped
    by (Err stop.Memory) = memory
    by (Err stop.Screen) = failed
    by (Err stop.Log) = failed
    by (Err stop.Keys) = failed
    by (Err stop.Limit) = failed

-- one that is whole went to its end
pub record WentWhole (how : Result Ended Stop) (result : Status) : Type 0 where
  pub end : Ended
  pub how_is : how ≡ Ok end
  pub status_is : result ≡ end_status end

pub went_whole : (how : Result Ended Stop) (result : Status) → IsOr result (status_of how) → IsWhole result → WentWhole how result
went_whole how result (inr is) whole = absurd (subst (λ (it : Status). IsWhole it) is whole)
went_whole (Ok end) result (inl is) whole = record { end = end; how_is = refl; status_is = is }
went_whole (Err stop.Memory) result (inl is) whole = absurd (subst (λ (it : Status). IsWhole it) is whole)
went_whole (Err stop.Screen) result (inl is) whole = absurd (subst (λ (it : Status). IsWhole it) is whole)
went_whole (Err stop.Log) result (inl is) whole = absurd (subst (λ (it : Status). IsWhole it) is whole)
went_whole (Err stop.Keys) result (inl is) whole = absurd (subst (λ (it : Status). IsWhole it) is whole)
went_whole (Err stop.Limit) result (inl is) whole = absurd (subst (λ (it : Status). IsWhole it) is whole)

-- and shows why it was stopped
pub closing_end : (end : Ended) → closing (Ok end) (end_status end) ≡ end_text end
closing_end ended.Finished = refl
closing_end (ended.Stopped code) = refl
