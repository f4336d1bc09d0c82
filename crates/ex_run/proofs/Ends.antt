-- [close] What a run that is Done shows, logs, counts and saves.
use Rattle.std.proofs.Common.{◌≡◌, ℕ, ◌+◌, Bool, true, false, List, [], ◌++◌, Some, IsTrue, Result, Ok, Err, refl, sym, ap, ◌∙◌, subst, inl, inr}
use Rattle.std.proofs.lemmas.List.{append-nil}
use Rattle.cm_lists.proofs.Pieces.{nil_of_append}
use Rattle.cm_io.specs.Contents.{Contents, add}
use Rattle.cm_io.proofs.Additions.{add_append}
use Rattle.cm_text.specs.ScreenBytes.{end_of_line}
use Rattle.cm_run.specs.Cut.{Traces}
use Rattle.cm_run.specs.Event.{log_bytes, screen_bytes, trials_of}
use Rattle.cm_run.specs.Observation.{Between, Performs}
use Rattle.cm_run.specs.declared.stop.Stop.{Stop}
use Rattle.cm_run.specs.declared.stop.Stop.TheVariants as stop
use Rattle.ex_image.specs.Image.{image_text}
use Rattle.ex_store.specs.State.{State}
use Rattle.ex_run.specs.Closing.{Closes, Ends}
use Rattle.ex_system.specs.Disk.{Disk}
use Rattle.ex_system.specs.Messages.{message}
use Rattle.ex_system.specs.Saving.{IsOr, Keeps, Saves}
use Rattle.ex_system.specs.Trying.{Tried}
use Rattle.cm_io.specs.declared.status.Status.{Status}
use Rattle.cm_io.specs.declared.status.Status.TheVariants as status
use Rattle.ex_system.specs.Form.{Form}
use Rattle.ex_run.specs.Over.{Over, closing, has_ended, left_of, shown_of, trace_of}
use Rattle.ex_run.specs.Scene.{Scene, Tell, Telling, seen}
use Rattle.ex_run.specs.Course.{Ran}

-- a status that is another one, or HostFault in its place, is not this
pub is_not : (result why this : Status) → IsOr result why → result ≡ this → (why ≡ this → ⊥) → (status.HostFault ≡ this → ⊥) → ⊥
is_not result why this (inl same) is other host = other (sym same ∙ is)
is_not result why this (inr same) is other host = host (sym same ∙ is)

untold : (before now : Contents) (f g : ℕ) (bytes text : List ℕ) → Tried before now f g bytes text → text ≡ [] → now ≡ add before bytes
untold before now f g bytes text tried none =
    tried.contents ∙ ap (λ part. add before (bytes ++ part)) (nil_of_append tried.part tried.is_part.rest (tried.is_part.joined ∙ none))
    ∙ ap (λ it. add before it) (append-nil bytes)

-- it closed so: it was not cut short
pub record ClosesDone (why : Result Unit Stop) (ended : Bool) (before now : Contents) : Type 0 where
  pub stop : why ≡ Ok tt
  pub contents : now ≡ add before (closing ended)

done_told : (before now : Contents) (f g : ℕ) (result : Status) (bytes : List ℕ) → result ≡ status.Done → Tried before now f g bytes (message result)
    → now ≡ add before bytes
done_told before now f g result bytes done tried = untold before now f g bytes (message result) tried (ap (λ (it : Status). message it) done)

ends_done : (ended : Bool) (before now : Contents) (f g : ℕ) (result : Status) → Ends ended before now f g result → result ≡ status.Done
    → now ≡ add before (closing ended)
ends_done true before now f g result ends done = done_told before now f g result [] done ends.1
ends_done false before now f g result (inl ends) done = done_told before now f g result end_of_line done ends.1
ends_done false before now f g result (inr ends) done =
    absurd (is_not result status.WriteFault status.Done ends.0 done (λ (same : status.WriteFault ≡ status.Done). cc) (λ (same : status.HostFault ≡ status.Done). cc))

pub closes_done : (why : Result Unit Stop) (ended : Bool) (before now : Contents) (f g : ℕ) (result : Status) → Closes why ended before now f g result
    → result ≡ status.Done → ClosesDone why ended before now
unfolding Closes
closes_done (Ok value) ended before now f g result closes done = record { stop = refl; contents = ends_done ended before now f g result closes done }
closes_done (Err stop.Keys) ended before now f g result closes done =
    absurd (is_not result status.ReadFault status.Done closes.0 done (λ (same : status.ReadFault ≡ status.Done). cc) (λ (same : status.HostFault ≡ status.Done). cc))
closes_done (Err stop.Limit) ended before now f g result closes done =
    absurd (is_not result status.KeyLimit status.Done closes.0 done (λ (same : status.KeyLimit ≡ status.Done). cc) (λ (same : status.HostFault ≡ status.Done). cc))
closes_done (Err stop.Memory) ended before now f g result closes done =
    absurd (is_not result status.NoMemory status.Done closes.0 done (λ (same : status.NoMemory ≡ status.Done). cc) (λ (same : status.HostFault ≡ status.Done). cc))
closes_done (Err stop.Screen) ended before now f g result closes done =
    absurd (is_not result status.WriteFault status.Done closes.0 done (λ (same : status.WriteFault ≡ status.Done). cc) (λ (same : status.HostFault ≡ status.Done). cc))
closes_done (Err stop.Log) ended before now f g result closes done =
    absurd (is_not result status.WriteFault status.Done closes.0 done (λ (same : status.WriteFault ≡ status.Done). cc) (λ (same : status.HostFault ≡ status.Done). cc))

-- a run that is Done, and what was observed where it stopped
module _ {S : Type 0} (known : Telling) (o : Over S) (form : Form) (start : State) (left : S) (a b : Scene) (result : Status)
    (ran : Ran known o form start left a b result) (done : result ≡ status.Done) where
  closes : ClosesDone ran.stop (has_ended o left) ran.at.screen b.screen
  closes = closes_done ran.stop (has_ended o left) ran.at.screen b.screen ran.at.faults.screen b.faults.screen result ran.closes done

  pub done_between : Tell known → Between (seen a (o.begins start)) (seen ran.at left) (trace_of o form.logs start a.moments a.keys)
  unfolding Traces Performs
  done_between tells =
      subst (λ (why : Result Unit Stop). Traces (seen a (o.begins start)) (seen ran.at left) (trace_of o form.logs start a.moments a.keys) why)
      closes.stop (ran.traces tells)

  pub done_shown : Tell known → b.screen ≡ add a.screen (shown_of o form.logs start a.moments a.keys)
  done_shown tells =
      let between = done_between tells in
      let bytes = screen_bytes (trace_of o form.logs start a.moments a.keys) in
      closes.contents ∙ ap (λ (it : Contents). add it (closing (has_ended o left))) between.screen ∙ sym (add_append a.screen bytes (closing (has_ended o left)))
      ∙ ap (λ (it : S). add a.screen (bytes ++ closing (has_ended o it))) between.state

  pub done_logged : Tell known → b.log ≡ add a.log (log_bytes (trace_of o form.logs start a.moments a.keys))
  done_logged tells = ap (λ (it : Scene). it.log) ran.rest ∙ (done_between tells).log

  pub done_counted : Tell known → b.trials ≡ a.trials + trials_of (trace_of o form.logs start a.moments a.keys)
  done_counted tells = ap (λ (it : Scene). it.trials) ran.rest ∙ (done_between tells).trials

  pub done_saved : (before now : Disk) → Tell known → IsTrue before.tells → Saves before now form.out (o.store_of left) result
      → now.files form.out ≡ Some (image_text (o.store_of (left_of o form.logs start a.moments a.keys)))
  done_saved before now tells tell saves =
      subst (λ (it : Status). Keeps (image_text (o.store_of left)) (before.files form.out) (now.files form.out) it) done (saves.file tell)
      ∙ ap (λ (it : S). Some (image_text (o.store_of it))) (done_between tells).state
