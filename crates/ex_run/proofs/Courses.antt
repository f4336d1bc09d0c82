-- The course of a run, by its two ways out: before the first prompt, and past it.
-- An application is one term in the lemmas (o : Over S). All that is known is one record (Course), with one answer for
-- each way out (course_early, course_past); a clause of the program above is a field of it. The state left is in the
-- record (Past), so file and screen speak of one. What follows where the start is known is a record within it
-- (Follows), whose premises are handed in once (one_start). (start : State) → app.old ≡ P.begins start → .. on a
-- function that goes on from a beginning asks for no inverse of begins.
use Rattle.std.proofs.Common.{◌≡◌, ℕ, Bool, IsTrue, List, [], ◌++◌, refl, sym, ◌∙◌, subst, inl, inr, arith}
use Rattle.std.proofs.lemmas.List.{append_cancel_right}
use Rattle.cm_lists.proofs.Pieces.{nil_of_append}
use Rattle.cm_io.specs.Contents.{Contents}
use Rattle.cm_io.specs.declared.status.Status.{Status}
use Rattle.cm_io.specs.declared.status.Status.TheVariants as status
use Rattle.cm_run.specs.Keeping.{IsLineKeeping, KeepsLine}
use Rattle.cm_run.specs.Progress.{MeetSound}
use Rattle.cm_run.proofs.Displays.{run_keeps}
use Rattle.tt_screen.specs.Grid.{feed}
use Rattle.tt_screen.specs.Holds.{Holds}
use Rattle.tt_screen.proofs.HeldTexts.{screen_is_a_display}
use Rattle.ex_store.specs.State.{State}
use Rattle.ex_system.specs.Disk.{Disk}
use Rattle.ex_system.specs.Form.{Form}
use Rattle.ex_system.specs.Messages.{message}
use Rattle.ex_system.specs.Saving.{HostCause}
use Rattle.ex_system.specs.Start.{Began, InputCause, IsEarly, IsLoaded, Starts}
use Rattle.ex_system.specs.Trying.{Tried}
use Rattle.ex_system.proofs.Starts.{began_cause, early_memory, one_start}
use Rattle.ex_run.specs.Course.{Comes, Course, Finishes, Follows}
use Rattle.ex_run.specs.Over.{Over}
use Rattle.ex_run.specs.Scene.{Scene, Tell, Telling, with_screen}
use Rattle.ex_run.proofs.Causes.{early_causes, early_not_done, early_not_usage, run_not_usage}
use Rattle.ex_run.proofs.Ends.{done_counted, done_logged, done_saved, done_shown}
use Rattle.ex_run.proofs.HaltedRuns.{early_not_halted, halted, most}
use Rattle.ex_run.proofs.QuietEnds.{quiet_done, quiet_limit}

module _ {S : Type 0} (known : Telling) (o : Over S) (keeping : IsLineKeeping o.means) (form : Form) where
  -- where no key was taken there is no beginning but this
  none_taken : (start : State) (moments before now taken rest : List ℕ) → now ≡ before → (taken ++ rest) ++ now ≡ before
      → KeepsLine feed Holds o.means (o.begins start) moments taken
  unfolding MeetSound
  none_taken start moments before now taken rest same all =
      let none : taken ++ rest ≡ [] = append_cancel_right (taken ++ rest) [] now (all ∙ sym same) in
      subst (λ (keys : List ℕ). KeepsLine feed Holds o.means (o.begins start) moments keys) (sym (nil_of_append taken rest none))
      (run_keeps o.means keeping feed Holds screen_is_a_display (o.begins start) moments [] tt)

  -- past the first prompt
  module _ (start : State) (a b : Scene) (before loaded now : Disk) (result : Status) (comes : Comes known o form start a b loaded now result)
      (loads : IsLoaded form.input before loaded) (stays : loaded.faults ≡ before.faults)
      (began : Began before form.input start) where
    host_cause : HostCause before.faults now.faults result
    host_cause = subst (λ (count : ℕ). HostCause count now.faults result) stays comes.saves.cause

    follows : Tell known → Follows o form start a b before now result
    follows tells = record {
      shown = λ done. done_shown known o form start comes.left a b result comes.ran done tells;
      logged = λ done. done_logged known o form start comes.left a b result comes.ran done tells;
      counted = λ done. done_counted known o form start comes.left a b result comes.ran done tells;
      saved = λ tell done. done_saved known o form start comes.left a b result comes.ran done loaded now tells
          (subst (λ (it : Bool). IsTrue it) (sym loads.tells) tell) comes.saves;
      most = most known o form start comes.left a b result comes.ran tells;
      halted = λ halt taken all. halted known o form start comes.left a b result comes.ran tells halt taken all;
      on_screen = λ taken rest all.
          run_keeps o.means keeping feed Holds screen_is_a_display (o.begins start) a.moments taken (comes.sound tells taken rest all);
    }

    finishes : IsTrue known.keys → Finishes known o form start a b before now result
    finishes tells = record {
      complete = λ few quiet.
          quiet_done known tells o form start comes.left a b before now result comes.ran comes.is_run comes.cause host_cause quiet few;
      limit = λ taken rest all count going quiet.
          quiet_limit known tells o form start comes.left a b before now result comes.ran comes.is_run comes.cause host_cause quiet
          (comes.leads tells) taken rest all count going;
    }

    pub course_past : Course known o form a b before now result
    course_past = record {
      stands = inr (record {
        start = start;
        left = comes.left;
        loaded = loaded;
        begins = (loads, stays, began);
        ran = comes.ran;
        saves = comes.saves;
      });
      unlogged = comes.unlogged;
      usage = run_not_usage result comes.is_run;
      cause = comes.cause;
      host_cause = host_cause;
      start = began_cause before form.input start result began comes.is_run;
      follows = λ tells other starts.
          subst (λ (it : State). Follows o form it a b before now result) (one_start before form.input start other began starts) (follows tells);
      finishes = λ tells other starts.
          subst (λ (it : State). Finishes known o form it a b before now result) (one_start before form.input start other began starts) (finishes tells);
    }

  -- before it
  module _ (a : Scene) (screen : Contents) (faults : ℕ) (before now : Disk) (why : Status) (early : IsEarly form.input why)
      (cause : InputCause before form.input why) (host : HostCause before.faults now.faults why)
      (tried : Tried a.screen screen a.faults.screen faults [] (message why)) (loads : IsLoaded form.input before now) where
    abbrev b : Scene
    b = with_screen a screen faults

    no_done : {P : Type 0} → why ≡ status.Done → P
    no_done done = absurd (early_not_done form.input why early done)

    early_follows : (start : State) → Starts before form.input start → Follows o form start a b before now why
    early_follows start starts = record {
      shown = λ done. no_done done;
      logged = λ done. no_done done;
      counted = λ done. no_done done;
      saved = λ tell done. no_done done;
      most = omega arith;
      halted = λ halt taken all. absurd (early_not_halted form.input why early halt);
      on_screen = λ taken rest all. none_taken start a.moments a.keys a.keys taken rest refl all;
    }

    early_finishes : (start : State) → Starts before form.input start → Finishes known o form start a b before now why
    early_finishes start starts = record {
      complete = λ few quiet. inr (early_memory before form.input start before.faults now.faults why early cause starts host quiet.host);
      limit = λ taken rest all count going quiet.
          inr (early_memory before form.input start before.faults now.faults why early cause starts host quiet.host);
    }

    course_why : Course known o form a b before now why
    course_why = record {
      stands = inl (early, record { screen = tried; rest = refl }, loads);
      unlogged = λ none. (refl, refl);
      usage = early_not_usage form.input why early;
      cause = early_causes form.input a.faults faults why early;
      host_cause = host;
      start = cause;
      follows = λ tells start starts. early_follows start starts;
      finishes = λ tells start starts. early_finishes start starts;
    }

    pub course_early : (result : Status) → result ≡ why → Course known o form a b before now result
    course_early result same = subst (λ (it : Status). Course known o form a b before now it) (sym same) course_why
