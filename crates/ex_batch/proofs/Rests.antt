-- What a line of a control file leaves to be done: nothing.
use Rattle.std.proofs.Common.{◌≡◌, ℕ, zero, suc, ◌+◌, Bool, true, false, List, [], ◌∷◌, Option, None, Some, refl, sym, subst}
use Rattle.std.specs.Prelude.{if◌then◌else◌, slice_get}
use Rattle.std.proofs.lemmas.List.Sums.{fold-append}
use Rattle.cm_io.specs.Clock.{next_moment}
use Rattle.cm_fields.specs.declared.code.Code.{Code}
use Rattle.cm_fields.specs.declared.code.Code.TheVariants.{BadControl, BadLine}
use Rattle.cm_blocks.specs.declared.field.Ending.{Ending}
use Rattle.cm_blocks.specs.declared.field.Ending.TheVariants as endings
use Rattle.cm_run.specs.Event.{Act, moments_after, state_after, state_after_event}
use Rattle.cm_run.specs.SingleLine.{handed_trace}
use Rattle.cm_run.specs.Trace.{effects_trace, file_session}
use Rattle.cm_run.proofs.Screens.{state-effects}
use Rattle.ex_store.specs.declared.place.Place.{Place}
use Rattle.ex_commands.specs.Command.{is_pending}
use Rattle.ex_commands.specs.declared.command.Command.{Command}
use Rattle.ex_commands.specs.declared.command.Command.TheVariants as commands
use Rattle.ex_take.specs.Exec.{refuses}
use Rattle.ex_take.specs.ExecState.{ExecState, forgiven}
use Rattle.ex_take.specs.Interpreter.{command_at}
use Rattle.ex_take.specs.Taking.{RestsUnlessEnded, is_at_rest}
use Rattle.ex_take.proofs.Rests.{Rest, command_rests, nothing_rests, refusal_rests, rest_goes_on, stopped_rests}
use Rattle.ex_batch.specs.Control.{Bad, Condition, Control, Exec, Goto, Label, Nothing, Order, Plain, control_of, is_parsable}
use Rattle.ex_batch.specs.Labels.{place_of}
use Rattle.ex_batch.specs.Batch.{Step, batch_from, condition_step, control_step, is_met, label_next, line_step, nothing_but, order_step, text_step, text_trace, unless_refused}
use Rattle.ex_batch.specs.Job.{bar_of, job_effects, job_semantics, order_effects, unless_barred, waiting_bar}
use Rattle.ex_batch.specs.declared.step.Ended.TheVariants.{Finished, Stopped}
use Rattle.ex_batch.specs.declared.step.Next.{Next}
use Rattle.ex_batch.specs.declared.step.Next.TheVariants.{Line, Over}
use Rattle.ex_batch.proofs.HandedLines.{handed_leads}

-- a command that may be in a control file types no file in, and waits for no subcommands
no_waiting : (test : Bool) → waiting_bar test ≡ None → test ≡ false
no_waiting true is = absurd (cc)
no_waiting false is = refl

pub unbarred_acts : (command : Command) → bar_of command ≡ None
    → ((to : Place) → command ≡ commands.CopyTty to → ⊥) × (is_pending command ≡ false)
unfolding bar_of
unbarred_acts (commands.CopyTty to) is = absurd (cc)
unbarred_acts command is = ((λ to (same : command ≡ commands.CopyTty to). absurd (cc)), no_waiting (is_pending command) is)

-- what a line of the EXEC's leaves
module _ (moment : ℕ) (at : ExecState) (rests : is_at_rest at ≡ true) where
  job_rests : (command : Command) → Rest at moment rests (job_effects at moment command)
  job_rests command = by (bar_of command) refl where
    by : (bar : Option Code) → bar_of command ≡ bar → Rest at moment rests (unless_barred at moment command bar)
    by None is = let acts = unbarred_acts command is in command_rests at moment rests command acts.0 acts.1
    by (Some code) is = refusal_rests at moment rests code

  module _ (text : List ℕ) where
    order_rests : (ending : Ending) → Rest at moment rests (order_effects at (file_session job_semantics at text) moment ending)
    unfolding order_effects
    order_rests endings.Done = job_rests (command_at at.interpreter (file_session job_semantics at text))
    order_rests (endings.Fault fault) = refusal_rests at moment rests fault.code
    order_rests (endings.Open place) = nothing_rests at moment rests

    handed_rests : RestsUnlessEnded (state_after at (handed_trace job_semantics moment at text))
    handed_rests =
        subst (λ (it : ExecState). RestsUnlessEnded it) (sym (handed_leads at text moment rests _ refl))
        (order_rests (file_session job_semantics at text).ending)

    pub text_rests : RestsUnlessEnded (state_after at (text_trace moment at text))
    text_rests = by (is_parsable text) where
      by : (test : Bool)
          → RestsUnlessEnded (state_after at (if test then handed_trace job_semantics moment at text else effects_trace (refuses BadLine at ∷ [])))
      by true = handed_rests
      by false =
          subst (λ (it : ExecState). RestsUnlessEnded it) (sym (state-effects (refuses BadLine at ∷ []) at)) (stopped_rests at BadLine rests)

-- after a step nothing is left to be done, unless LOGOUT has acted, and then no line is next
pub record Rested (at : ExecState) (step : Step) : Type 0 where
  pub rests : RestsUnlessEnded (state_after at step.events)
  pub goes_on : (place : ℕ) → step.next ≡ Line place → (state_after at step.events).interpreter.ended ≡ false

nothing_rested : (at : ExecState) (next : Next) → is_at_rest at ≡ true → Rested at (nothing_but next)
nothing_rested at next rests = record { rests = λ going. rests; goes_on = λ place is. rest_goes_on at rests }

after_goes_on : (place next : ℕ) (ended : Bool) → (if ended then Over Finished else Line (place + 1)) ≡ Line next → ended ≡ false
after_goes_on place next true is = absurd (cc)
after_goes_on place next false is = refl

text_rested : (place moment : ℕ) (at : ExecState) (text : List ℕ) → is_at_rest at ≡ true → Rested at (text_step place moment at text)
text_rested place moment at text rests = record {
  rests = text_rests moment at rests text;
  goes_on = λ next is. after_goes_on place next (state_after at (text_trace moment at text)).interpreter.ended is;
}

module _ (lines : List (List ℕ)) (place : ℕ) (moments : List ℕ) where
  order_rested : (at : ExecState) (order : Order) → is_at_rest at ≡ true → Rested at (order_step lines place moments at order)
  unfolding order_step
  order_rested at (Goto name) rests = nothing_rested at (label_next (place_of name lines)) rests
  order_rested at (Exec text) rests =
      let text_is = text_rested place (next_moment moments) at text rests in record { rests = text_is.rests; goes_on = text_is.goes_on }
  order_rested at Bad rests = nothing_rested at (Over (Stopped BadControl)) rests

  unless_rested : (at : ExecState) (why : Option Code) (step : Step) → is_at_rest at ≡ true → Rested at step → Rested at (unless_refused why step)
  unless_rested at None step rests rested = rested
  unless_rested at (Some code) step rests rested = nothing_rested at (Over (Stopped code)) rests

  condition_rested : (at : ExecState) (met : Bool) (order : Order) → is_at_rest at ≡ true → Rested at (condition_step lines place moments at met order)
  condition_rested at met order rests = by met where
    after : (step : Step) → Rested (forgiven at) step
        → Rested at (record { events = Act (forgiven at) ∷ step.events; next = step.next })
    after step rested = record { rests = rested.rests; goes_on = rested.goes_on }

    by : (met : Bool) → Rested at (condition_step lines place moments at met order)
    by true = after (order_step lines place moments (forgiven at) order) (order_rested (forgiven at) order rests)
    by false = after (nothing_but (Line (place + 1))) (nothing_rested (forgiven at) (Line (place + 1)) rests)

  control_rested : (at : ExecState) (control : Control) → is_at_rest at ≡ true → Rested at (control_step lines place moments at control)
  unfolding control_step
  control_rested at Nothing rests = nothing_rested at (Line (place + 1)) rests
  control_rested at (Condition error order) rests = condition_rested at (is_met error at.stop) order rests
  control_rested at (Label name) rests =
      unless_rested at at.stop (nothing_but (Line (place + 1))) rests (nothing_rested at (Line (place + 1)) rests)
  control_rested at (Plain order) rests =
      unless_rested at at.stop (order_step lines place moments at order) rests (order_rested at order rests)

  pub line_rested : (at : ExecState) (found : Option (List ℕ)) → is_at_rest at ≡ true → Rested at (line_step lines place moments at found)
  unfolding line_step
  line_rested at None rests = nothing_rested at (Over Finished) rests
  line_rested at (Some line) rests =
      let control = control_rested at (control_of line) rests in record { rests = control.rests; goes_on = control.goes_on }

-- so it is after any number of lines
pub run_rests : (lines : List (List ℕ)) (more : ℕ) (moments : List ℕ) (at : ExecState) (next : Next) → RestsUnlessEnded at
    → ((place : ℕ) → next ≡ Line place → at.interpreter.ended ≡ false) → RestsUnlessEnded (state_after at (batch_from lines more moments at next).events)
unfolding batch_from
run_rests lines more moments at (Over end) rests goes_on = rests
run_rests lines zero moments at (Line place) rests goes_on = rests
run_rests lines (suc more) moments at (Line place) rests goes_on =
    let step = line_step lines place moments at (slice_get lines place) in
    let rested = line_rested lines place moments at (slice_get lines place) (rests (goes_on place refl)) in
    let rest = batch_from lines more (moments_after moments step.events) (state_after at step.events) step.next in
    subst (λ (it : ExecState). RestsUnlessEnded it) (sym (fold-append state_after_event at step.events rest.events))
    (run_rests lines more (moments_after moments step.events) (state_after at step.events) step.next rested.rests rested.goes_on)

-- where a run begins
pub start_rests : (lines : List (List ℕ)) (most : ℕ) (moments : List ℕ) (at : ExecState) → is_at_rest at ≡ true
    → RestsUnlessEnded (state_after at (batch_from lines most moments at (Line 0)).events)
start_rests lines most moments at rests = run_rests lines most moments at (Line 0) (λ going. rests) (λ place is. rest_goes_on at rests)

pub line_rests : (lines : List (List ℕ)) (place : ℕ) (moments : List ℕ) (at : ExecState) (found : Option (List ℕ)) (next : ℕ) → is_at_rest at ≡ true
    → (line_step lines place moments at found).next ≡ Line next
    → is_at_rest (state_after at (line_step lines place moments at found).events) ≡ true
line_rests lines place moments at found next rests is =
    let rested = line_rested lines place moments at found rests in rested.rests (rested.goes_on next is)
