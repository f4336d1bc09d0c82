-- Lines of the EXEC's in a control file, and the same lines typed.
-- Two runs that differ in what is shown are compared over one list of lines with their events (TypedLine), never by
-- taking an event out.
use Rattle.std.proofs.Common.{◌≡◌, ◌≤◌, ℕ, zero, suc, ◌+◌, Bool, true, false, List, [], ◌∷◌, ◌++◌, map, length, length-append, append_assoc, Option, None, Some, refl, sym, ap, ◌∙◌, subst, arith}
use Rattle.std.specs.Prelude.{if◌then◌else◌, slice_get}
use Rattle.std.proofs.lemmas.List.Sums.{fold-append, sum_by-append}
use Rattle.cm_fields.specs.declared.code.Code.{Code}
use Rattle.cm_fields.specs.declared.code.Code.TheVariants.{BadLine}
use Rattle.cm_text.specs.Text.{finished}
use Rattle.cm_io.specs.Clock.{next_moment}
use Rattle.cm_blocks.specs.KeptParse.{cost}
use Rattle.cm_blocks.specs.declared.field.Ending.{Ending}
use Rattle.cm_blocks.specs.declared.field.Ending.TheVariants as endings
use Rattle.cm_state.specs.SessionState.{SessionState}
use Rattle.cm_run.specs.Event.{Event, Moment, Screen, Trials, event_trials, moments_after, moments_after_event, state_after, state_after_event, trials_of}
use Rattle.cm_run.specs.SingleLine.{handed_trace}
use Rattle.cm_run.specs.Semantics.{setting_of}
use Rattle.cm_run.specs.Trace.{effects_trace, file_session, line_trace, node_of}
use Rattle.cm_run.specs.declared.engine.TheConstants.{FILE_LINES}
use Rattle.cm_run.proofs.Screens.{state-effects}
use Rattle.ex_take.specs.Exec.{exec_semantics, refuses, stopped}
use Rattle.ex_take.specs.ExecState.{ExecState}
use Rattle.ex_take.specs.Interpreter.{command_at}
use Rattle.ex_take.specs.Taking.{is_at_rest}
use Rattle.ex_take.proofs.QuietKeys.{none_next, quiet_next}
use Rattle.ex_batch.specs.Control.{Control, Exec, Plain, control_of, is_parsable}
use Rattle.ex_batch.specs.Batch.{Batch, Step, after_event, after_text, batch_from, batch_of, control_step, joined, limit_end, line_step, nothing_but, order_step, shown, text_trace, unless_refused}
use Rattle.ex_batch.specs.Job.{bar_of, job_semantics, order_effects, unless_barred}
use Rattle.ex_batch.specs.TypedRuns.{AreAccepted, ComesTo, IsAccepted, TypedLine, all_events, file_events, in_file, shown_events, typed_events, typed_lines}
use Rattle.ex_batch.specs.declared.batch.TheConstants.{CONTROL_LINES}
use Rattle.ex_batch.specs.declared.step.Ended.TheVariants.{Finished}
use Rattle.ex_batch.specs.declared.step.Next.TheVariants.{Line, Over}
use Rattle.ex_batch.proofs.HandedLines.{handed_leads}
use Rattle.ex_batch.proofs.LawLemmas.{line_as_typed}
use Rattle.ex_batch.proofs.Rests.{text_rests}

-- a line that is not refused does what it does where it is typed
module _ (moments : List ℕ) (at : ExecState) (text : List ℕ) (rests : is_at_rest at ≡ true) where
  abbrev moment : ℕ
  moment = next_moment moments

  abbrev session : SessionState
  session = file_session job_semantics at text

  abbrev handed : List (Event ExecState)
  handed = handed_trace job_semantics moment at text

  abbrev typed : List (Event ExecState)
  typed =
      Trials (cost (setting_of exec_semantics at) (node_of (exec_semantics.mode_of at)) [] (finished text))
      ∷ line_trace exec_semantics at (file_session exec_semantics at text) moment

  pub parsable_of : IsAccepted moments at text → is_parsable text ≡ true
  parsable_of accepted = by (is_parsable text) accepted.kept where
    by : (test : Bool) → (state_after at (if test then handed else effects_trace (refuses BadLine at ∷ []))).stop ≡ None → test ≡ true
    by true kept = refl
    by false kept =
        let wrong : Some BadLine ≡ None = sym (ap (λ (it : ExecState). it.stop) (state-effects (refuses BadLine at ∷ []) at)) ∙ kept in absurd (cc)

  as_handed : IsAccepted moments at text → text_trace moment at text ≡ handed
  as_handed accepted = ap (λ (test : Bool). if test then handed else effects_trace (refuses BadLine at ∷ [])) (parsable_of accepted)

  barred_effects : (code : Code) → session.ending ≡ endings.Done → bar_of (command_at at.interpreter session) ≡ Some code
      → order_effects at session moment session.ending ≡ refuses code at ∷ []
  unfolding order_effects
  barred_effects code done is =
      ap (λ (it : Ending). order_effects at session moment it) done
      ∙ ap (λ (it : Option Code). unless_barred at moment (command_at at.interpreter session) it) is

  as_typed : session.ending ≡ endings.Done → (state_after at handed).stop ≡ None → handed ≡ typed
  as_typed done kept = by (bar_of (command_at at.interpreter session)) refl where
    by : (bar : Option Code) → bar_of (command_at at.interpreter session) ≡ bar → handed ≡ typed
    by None is = line_as_typed at text moment rests done is
    by (Some code) is =
        let leads : state_after at handed ≡ stopped code at =
        handed_leads at text moment rests (refuses code at ∷ []) (barred_effects code done is)
        ∙ none_next moment FILE_LINES (stopped code at) (quiet_next (stopped code at) refl) in
        let wrong : Some code ≡ None = sym (ap (λ (it : ExecState). it.stop) leads) ∙ kept in absurd (cc)

  pub accepted_as : IsAccepted moments at text → file_events moments at text ≡ typed_events moments at text
  accepted_as accepted =
      let same : text_trace moment at text ≡ handed = as_handed accepted in
      let kept : (state_after at handed).stop ≡ None
      = ap (λ (events : List (Event ExecState)). (state_after at events).stop) (sym same) ∙ accepted.kept in
      ap (λ (events : List (Event ExecState)). Moment ∷ events) (same ∙ as_typed accepted.parse kept)

-- the element after others
at_end : (front more : List (List ℕ)) → slice_get (front ++ more) (length front) ≡ slice_get more 0
at_end [] more = refl
at_end (line ∷ front) more = at_end front more

-- a line is used
module _ (lines : List (List ℕ)) (place : ℕ) (moments : List ℕ) (at : ExecState) where
  pub step_as : (text : List ℕ) → slice_get lines place ≡ Some (in_file text) → control_of (in_file text) ≡ Plain (Exec text)
      → at.stop ≡ None → line_step lines place moments at (slice_get lines place)
      ≡ record {
        events = Screen (shown (in_file text)) ∷ file_events moments at text;
        next = after_text place (state_after at (file_events moments at text));
      }
  unfolding line_step control_step order_step
  step_as text found order kept =
      let first : Event ExecState = Screen (shown (in_file text)) in
      ap (λ (it : Option (List ℕ)). line_step lines place moments at it) found
      ∙ ap (λ (it : Control). after_event first (control_step lines place moments at it)) order
      ∙ ap (λ (it : Option Code). after_event first (unless_refused it (order_step lines place moments at (Exec text)))) kept

  none_as : slice_get lines place ≡ None → line_step lines place moments at (slice_get lines place) ≡ nothing_but (Over Finished)
  unfolding line_step
  none_as none = ap (λ (it : Option (List ℕ)). line_step lines place moments at it) none

  turn_as : (more : ℕ) (step : Step) → line_step lines place moments at (slice_get lines place) ≡ step
      → batch_from lines (suc more) moments at (Line place)
      ≡ joined step (batch_from lines more (moments_after moments step.events) (state_after at step.events) step.next)
  unfolding batch_from
  turn_as more step is =
      ap (λ (it : Step). joined it (batch_from lines more (moments_after moments it.events) (state_after at it.events) it.next)) is

-- a run does what these lines do
record IsRun (lines : List TypedLine) (batch : Batch) : Type 0 where
  end : batch.end ≡ Finished
  events : batch.events ≡ shown_events lines

-- after the last line it is over
no_more : (lines : List (List ℕ)) (place more : ℕ) (moments : List ℕ) (at : ExecState) → slice_get lines place ≡ None
    → IsRun [] (batch_from lines more moments at (Line place))
unfolding batch_from
no_more lines place zero moments at none = record { end = ap limit_end none; events = refl }
no_more lines place (suc more) moments at none =
    subst (λ (it : Batch). IsRun [] it) (sym (turn_as lines place moments at more (nothing_but (Over Finished)) (none_as lines place moments at none)))
    (record { end = refl; events = refl })

-- a line is used, and then the run is over or goes on
module _ (lines : List (List ℕ)) (place more : ℕ) (text : List ℕ) (texts : List (List ℕ)) (moments : List ℕ) (at : ExecState) where
  abbrev here : List (Event ExecState)
  here = file_events moments at text

  abbrev left : ExecState
  left = state_after at here

  abbrev later : List ℕ
  later = moments_after moments here

  abbrev lines_by : List (Event ExecState) → List TypedLine
  lines_by events =
      record { text = text; events = events }
      ∷ (if (state_after at events).interpreter.ended then [] else typed_lines (moments_after moments events) (state_after at events) texts)

  more_lines : (ended : Bool) → left.interpreter.ended ≡ ended
      → (left.interpreter.ended ≡ false → IsRun (typed_lines later left texts) (batch_from lines more later left (Line (place + 1))))
      → IsRun (record { text = text; events = here } ∷ (if ended then [] else typed_lines later left texts))
      (joined (record { events = Screen (shown (in_file text)) ∷ here; next = Over Finished })
      (batch_from lines more later left (if ended then Over Finished else Line (place + 1))))
  unfolding batch_from
  more_lines true is run = record { end = refl; events = refl }
  more_lines false is run =
      let rest = run is in
      record { end = rest.end; events = ap (λ (events : List (Event ExecState)). Screen (shown (in_file text)) ∷ (here ++ events)) rest.events }

  line_run : slice_get lines place ≡ Some (in_file text) → is_at_rest at ≡ true → at.stop ≡ None → IsAccepted moments at text
      → (left.interpreter.ended ≡ false → IsRun (typed_lines later left texts) (batch_from lines more later left (Line (place + 1))))
      → IsRun (typed_lines moments at (text ∷ texts)) (batch_from lines (suc more) moments at (Line place))
  unfolding typed_lines
  line_run found rests kept accepted run =
      subst (λ (it : Batch). IsRun (lines_by (typed_events moments at text)) it)
      (sym (turn_as lines place moments at more _ (step_as lines place moments at text found accepted.order kept)))
      (subst (λ (events : List (Event ExecState)). IsRun (lines_by events)
      (joined (record { events = Screen (shown (in_file text)) ∷ here; next = after_text place left })
      (batch_from lines more later left (after_text place left))))
      (accepted_as moments at text rests accepted) (record {
        end = (more_lines left.interpreter.ended refl run).end;
        events = (more_lines left.interpreter.ended refl run).events;
      }))

run_as : (texts front lines : List (List ℕ)) (place more : ℕ) (moments : List ℕ) (at : ExecState) → lines ≡ front ++ map in_file texts
    → place ≡ length front → length texts ≤ more → is_at_rest at ≡ true → at.stop ≡ None → AreAccepted moments at texts
    → IsRun (typed_lines moments at texts) (batch_from lines more moments at (Line place))
unfolding typed_lines AreAccepted
run_as [] front lines place more moments at is here few rests kept accepted =
    no_more lines place more moments at (ap (λ (n : ℕ). slice_get lines n) here ∙ ap (λ (it : List (List ℕ)). slice_get it (length front)) is ∙ at_end front [])
run_as (text ∷ texts) front lines place zero moments at is here few rests kept accepted = absurd (omega (arith, few))
run_as (text ∷ texts) front lines place (suc more) moments at is here few rests kept accepted =
    let events = file_events moments at text in
    line_run lines place more text texts moments at
    (ap (λ (n : ℕ). slice_get lines n) here ∙ ap (λ (it : List (List ℕ)). slice_get it (length front)) is ∙ at_end front (in_file text ∷ map in_file texts))
    rests kept accepted.0
    (λ going. run_as texts (front ++ in_file text ∷ []) lines (place + 1) more (moments_after moments events) (state_after at events)
    (is ∙ sym (append_assoc front (in_file text ∷ []) (map in_file texts)))
    (ap (λ (n : ℕ). n + 1) here ∙ sym (length-append front (in_file text ∷ [])))
    (omega (arith, few)) (text_rests (next_moment moments) at rests text going) accepted.0.kept (accepted.1 going))

-- what is shown of a line leaves all else as it is
state_same : (lines : List TypedLine) (at : ExecState) → state_after at (shown_events lines) ≡ state_after at (all_events lines)
state_same [] at = refl
state_same (line ∷ lines) at =
    fold-append state_after_event at line.events (shown_events lines) ∙ state_same lines (state_after at line.events)
    ∙ sym (fold-append state_after_event at line.events (all_events lines))

moments_same : (lines : List TypedLine) (moments : List ℕ) → moments_after {S = ExecState} moments (shown_events lines) ≡ moments_after {S = ExecState} moments (all_events lines)
moments_same [] moments = refl
moments_same (line ∷ lines) moments =
    fold-append moments_after_event moments line.events (shown_events lines) ∙ moments_same lines (moments_after moments line.events)
    ∙ sym (fold-append moments_after_event moments line.events (all_events lines))

trials_same : (lines : List TypedLine) → trials_of (shown_events lines) ≡ trials_of (all_events lines)
trials_same [] = refl
trials_same (line ∷ lines) =
    sum_by-append event_trials (Screen (shown (in_file line.text)) ∷ line.events) (shown_events lines)
    ∙ ap (λ (n : ℕ). trials_of line.events + n) (trials_same lines)
    ∙ sym (sum_by-append event_trials line.events (all_events lines))

pub file_as_typed : (texts : List (List ℕ)) (moments : List ℕ) (at : ExecState) → is_at_rest at ≡ true → at.stop ≡ None
    → length texts ≤ CONTROL_LINES → AreAccepted moments at texts
    → ComesTo moments at (typed_lines moments at texts) (batch_of (map in_file texts) moments at)
file_as_typed texts moments at rests kept few accepted =
    let run = run_as texts [] (map in_file texts) 0 CONTROL_LINES moments at refl refl few rests kept accepted in
    let lines = typed_lines moments at texts in
    record {
      end = run.end;
      events = run.events;
      state = ap (λ (events : List (Event ExecState)). state_after at events) run.events ∙ state_same lines at;
      moments = ap (λ (events : List (Event ExecState)). moments_after moments events) run.events ∙ moments_same lines moments;
      trials = ap (λ (events : List (Event ExecState)). trials_of events) run.events ∙ trials_same lines;
    }
