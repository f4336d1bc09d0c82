-- What is known of a run of a control file, and of one that does not begin.
-- The whole run is one trace (whole_of), also where it is out of memory before the lines. What is known of it is one
-- record (Course), made once for each way out.
use Rattle.std.proofs.Common.{◌≡◌, ◌⊎◌, ℕ, ◌+◌, ◌≤◌, Bool, List, [], Option, None, Some, IsTrue, Result, Ok, Err, refl, sym, ap, ◌∙◌, subst, inl, inr, arith}
use Rattle.std.specs.Prelude.{IfOk}
use Rattle.cm_io.specs.declared.status.Status.{Status}
use Rattle.cm_io.specs.declared.status.Status.TheVariants as status
use Rattle.cm_run.specs.Cause.{ObeyCause}
use Rattle.cm_run.specs.Cut.{Traces}
use Rattle.cm_run.specs.Event.{screen_bytes, state_after, trials_of}
use Rattle.cm_run.specs.Observation.{Between, Performs}
use Rattle.cm_run.specs.declared.stop.Stop.{Stop}
use Rattle.cm_run.specs.declared.stop.Stop.TheVariants as stop
use Rattle.ex_image.specs.Image.{image_text}
use Rattle.ex_store.specs.State.{State}
use Rattle.ex_system.specs.Disk.{Disk}
use Rattle.ex_system.specs.Messages.{message}
use Rattle.ex_system.specs.Quiet.{IsQuiet}
use Rattle.ex_system.specs.Saving.{HostCause, IsOr, Keeps}
use Rattle.ex_system.specs.Start.{InputCause, IsEarly, IsLoaded, IsRun, Starts}
use Rattle.ex_system.specs.Trying.{Tried}
use Rattle.ex_system.proofs.Starts.{began_cause, early_memory, not_quiet, one_start}
use Rattle.ex_system.proofs.Trials.{tried_after}
use Rattle.ex_take.specs.ExecState.{ExecState, exec_start}
use Rattle.ex_batch.specs.Batch.{Batch}
use Rattle.ex_batch.specs.RunEnd.{Course, Follows, IsBatch, IsWhole, JobForm, Past, Scene, ScreenCause, ShowsEnd, closing, end_status, end_text, seen, status_of, with_screen}
use Rattle.ex_batch.specs.Takes.{step_outcome}
use Rattle.ex_batch.specs.Whole.{whole_of}
use Rattle.ex_batch.specs.declared.step.Ended.{Ended}
use Rattle.ex_batch.proofs.Ends.{WentWhole, closing_end, of_status, screen_cause, went_whole}
use Rattle.ex_batch.proofs.Runs.{cut_most}

-- the statuses that may come before FILE is looked at
early_batch : (input : Option (List ℕ)) (result : Status) → IsEarly input result → IsBatch result
early_batch input status.NoMemory early = tt
early_batch (Some name) status.HostFault early = tt
early_batch (Some name) status.NoImage early = tt
early_batch (Some name) status.ImageTooLarge early = tt
early_batch (Some name) (status.BadImage at kind) early = tt
early_batch input result early = absurd early

early_screen : (input : Option (List ℕ)) (f g : ℕ) (result : Status) → IsEarly input result → ScreenCause f g result
early_screen input f g status.NoMemory early = tt
early_screen (Some name) f g status.HostFault early = tt
early_screen (Some name) f g status.NoImage early = tt
early_screen (Some name) f g status.ImageTooLarge early = tt
early_screen (Some name) f g (status.BadImage at kind) early = tt
early_screen input f g result early = absurd early

early_usage : (input : Option (List ℕ)) → IsEarly input status.Usage → ⊥
early_usage None early = early
early_usage (Some name) early = early

early_whole : (input : Option (List ℕ)) (result : Status) → IsEarly input result → IsWhole result → ⊥
early_whole None status.Done early whole = early
early_whole (Some name) status.Done early whole = early
early_whole None status.Stopped early whole = early
early_whole (Some name) status.Stopped early whole = early
early_whole input result early whole = whole

-- before FILE is looked at
module _ (known : Type 0) (asked : JobForm) (a b : Scene) (before now : Disk) (why result : Status) (same : result ≡ why)
    (early : IsEarly asked.form.input why) (cause : InputCause before asked.form.input why)
    (host : HostCause before.faults now.faults why)
    (tried : Tried a.screen b.screen a.faults b.faults [] (message why)) (loads : IsLoaded asked.form.input before now)
    (rest : b ≡ with_screen a b.screen b.faults) where
  early_follows : (start : State) → Starts before asked.form.input start → (moments : List ℕ)
      → Follows asked.file asked.form.out start a b before now why moments
  early_follows start starts moments =
      let stays : b.trials ≡ a.trials = ap (λ (it : Scene). it.trials) rest in
      record {
        ends = λ whole. absurd (early_whole asked.form.input why early whole);
        shown = λ whole. absurd (early_whole asked.form.input why early whole);
        counted = λ whole. absurd (early_whole asked.form.input why early whole);
        saved = λ whole _. absurd (early_whole asked.form.input why early whole);
        most = omega (arith, stays);
        complete = λ screen disk. inr (early_memory before asked.form.input start before.faults now.faults why early cause starts host disk);
      }

  early_course : Course known asked a b before now why
  early_course = record {
    stands = inl (early, record { screen = tried; rest = rest }, loads);
    batch = early_batch asked.form.input why early;
    usage = λ usage. absurd (early_usage asked.form.input (subst (λ (it : Status). IsEarly asked.form.input it) usage early));
    cause = early_screen asked.form.input a.faults b.faults why early;
    host_cause = host;
    start = cause;
    follows = λ start starts.
        record { moments = a.moments; own = λ _. refl; holds = early_follows start starts a.moments };
  }

  pub course_early : Course known asked a b before now result
  course_early = subst (λ (it : Status). Course known asked a b before now it) (sym same) early_course

keeps_whole : (image : List ℕ) (before now : Option (List ℕ)) (result : Status) → IsWhole result → Keeps image before now result
    → now ≡ Some image
keeps_whole image before now status.Done whole keeps = keeps
keeps_whole image before now status.Stopped whole keeps = keeps
keeps_whole image before now result whole keeps = absurd whole

-- a run that was closed
module _ (known : Type 0) (asked : JobForm) (a b : Scene) (before now : Disk) (result : Status)
    (past : Past known asked a b before now result) where
  abbrev at : Scene
  at = past.at

  abbrev job : Batch
  job = whole_of past.start asked.file past.ran.given

  is_run : IsRun result
  is_run = of_status IsRun tt tt tt tt tt past.how result past.closes.ends

  shows : ScreenCause a.faults b.faults result
  shows = screen_cause past.how at.screen b.screen a.faults at.faults b.faults result past.ran.cause past.closes

  saves : HostCause before.faults now.faults result
  saves = subst (λ (count : ℕ). HostCause count now.faults result) past.begins.1 past.saves.cause

  counts : b.trials ≡ at.trials
  counts = ap (λ (it : Scene). it.trials) past.rest

  -- where it is whole
  module _ (whole : IsWhole result) where
    went_to : WentWhole past.how result
    went_to = went_whole past.how result past.closes.ends whole

    ends : went_to.end ≡ job.end
    ends = subst (λ (it : Result Ended Stop). IfOk it (λ end. end ≡ job.end)) went_to.how_is past.ran.runs.end

    all : Between (seen a past.ran.given (exec_start past.start)) (seen at past.ran.later past.left) job.events
    unfolding Traces Performs
    all = subst (λ (it : Result Ended Stop). Traces (seen a past.ran.given (exec_start past.start)) (seen at past.ran.later past.left) job.events (step_outcome it))
        went_to.how_is past.ran.runs.traces

    stays : at.faults ≡ a.faults
    unfolding ObeyCause
    stays = subst (λ (it : Result Ended Stop). ObeyCause a.faults at.faults (step_outcome it)) went_to.how_is past.ran.cause

    whole_status : result ≡ end_status job.end
    whole_status = went_to.status_is ∙ ap (λ (it : Ended). end_status it) ends

    closes_so : closing (Ok went_to.end) result ≡ end_text job.end
    closes_so = ap (λ (it : Status). closing (Ok went_to.end) it) went_to.status_is ∙ closing_end went_to.end
        ∙ ap (λ (it : Ended). end_text it) ends

    closes_end : Tried at.screen b.screen at.faults b.faults [] (closing (Ok went_to.end) result)
    closes_end = subst (λ (it : Result Ended Stop). ShowsEnd it at.screen b.screen at.faults b.faults result)
        went_to.how_is past.closes.shown

    whole_shown : Tried a.screen b.screen a.faults b.faults (screen_bytes job.events) (end_text job.end)
    whole_shown = tried_after a.screen at.screen b.screen a.faults at.faults b.faults (screen_bytes job.events) (end_text job.end)
        all.screen stays (subst (λ (it : List ℕ). Tried at.screen b.screen at.faults b.faults [] it) closes_so closes_end)

    whole_counted : b.trials ≡ a.trials + trials_of job.events
    whole_counted = counts ∙ all.trials

    whole_saved : IsTrue before.tells
        → now.files asked.form.out ≡ Some (image_text (state_after (exec_start past.start) job.events).interpreter.state)
    whole_saved tell =
        keeps_whole (image_text past.left.interpreter.state) (past.loaded.files asked.form.out) (now.files asked.form.out) result whole
        (past.saves.file (subst (λ (it : Bool). IsTrue it) (sym past.begins.0.tells) tell))
        ∙ ap (λ (it : ExecState). Some (image_text it.interpreter.state)) all.state

  -- and however it went
  most : b.trials ≤ a.trials + trials_of job.events
  most =
      let few : at.trials ≤ a.trials + trials_of job.events =
      cut_most (seen a past.ran.given (exec_start past.start)) (seen at past.ran.later past.left) job.events (step_outcome past.how)
      past.ran.runs.traces in
      omega (arith, few, counts)

  complete : IsQuiet a.faults b.faults → IsQuiet before.faults now.faults
      → (result ≡ end_status job.end) ⊎ (result ≡ status.NoMemory)
  unfolding ObeyCause
  complete screen host = by past.how past.ran.cause past.ran.runs.end past.closes.ends
    where
      by : (how : Result Ended Stop) → ObeyCause a.faults at.faults (step_outcome how) → IfOk how (λ end. end ≡ job.end)
          → IsOr result (status_of how) → (result ≡ end_status job.end) ⊎ (result ≡ status.NoMemory)
      by how cause end (inr is) =
          absurd (not_quiet before.faults now.faults (subst (λ (it : Status). HostCause before.faults now.faults it) is saves) host)
      by (Ok end) cause same (inl is) = inl (is ∙ ap (λ (it : Ended). end_status it) same)
      by (Err stop.Memory) cause end (inl is) = inr is
      by (Err stop.Screen) cause end (inl is) =
          absurd (not_quiet a.faults b.faults (subst (λ (it : Status). ScreenCause a.faults b.faults it) is shows) screen)
      by (Err stop.Log) cause end (inl is) = absurd cause
      by (Err stop.Keys) cause end (inl is) = absurd cause
      by (Err stop.Limit) cause end (inl is) = absurd cause

  follows : Follows asked.file asked.form.out past.start a b before now result past.ran.given
  follows = record {
    ends = whole_status;
    shown = whole_shown;
    counted = whole_counted;
    saved = whole_saved;
    most = most;
    complete = complete;
  }

  pub course_past : Course known asked a b before now result
  course_past = record {
    stands = inr past;
    batch = of_status IsBatch tt tt tt tt tt past.how result past.closes.ends;
    usage = λ is. subst (λ (it : Status). IsRun it) is is_run;
    cause = shows;
    host_cause = saves;
    start = began_cause before asked.form.input past.start result past.begins.2 is_run;
    follows = λ start starts. record {
      moments = past.ran.given;
      own = λ tells. (past.ran.own tells).0;
      holds = subst (λ (it : State). Follows asked.file asked.form.out it a b before now result past.ran.given)
          (one_start before asked.form.input past.start start past.begins.2 starts) follows;
    };
  }
